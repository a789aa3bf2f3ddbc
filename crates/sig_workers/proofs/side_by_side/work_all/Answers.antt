use Rattle.std.proofs.Crossing.{crosses}
use Rattle.std.proofs.Common.{rules}
use denote.Param.Send.{sendable}
use mir.Syntax.{of_param}
use Rattle.sig_workers.proofs.Sends.{part_send, worked_send, bells_sync, queues_shared}
use Rattle.sig_workers.proofs.side_by_side.work_all.Goals as goal

pub map_vec-requires-send-J : goal.map_vec-requires-send-J
map_vec-requires-send-J g c κs within = search (part_send, crosses, sendable) depth 40

pub map_vec-requires-send-X : goal.map_vec-requires-send-X
map_vec-requires-send-X g c κs within = search (worked_send, crosses, sendable) depth 40

pub map_vec-requires-sync-F : goal.map_vec-requires-sync-F
map_vec-requires-sync-F g c κs within = record {
  shared = λ x b o κ. (
    (
      ((λ q. tt), c.type_bounds.sync-R.shared x.0.now x.0.ref_ptr.0 x.0.ref_ptr.1 κs.1.1.1.1.1.1.1.0),
      (
        ((λ q. (tt, (tt, tt))), (queues_shared (of_param 0) κs.1.1.1.1.1.1.1.1.0 x.1 b o κ).1),
        (
          ((λ q. tt), bells_sync.shared x.2.now x.2.ref_ptr.0 x.2.ref_ptr.1 κs.1.1.1.1.1.1.1.1.1.0),
          (
            ((λ q. tt), c.type_bounds.sync-G.shared x.3.now x.3.ref_ptr.0 x.3.ref_ptr.1 κs.1.1.1.1.1.1.1.1.1.1.0),
            (search rules, (search rules, tt)),
          ),
        ),
      ),
    ),
    λ q. tt,
  );
}
