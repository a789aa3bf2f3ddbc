use Rattle.std.proofs.Common.{ℕ, ◌≡◌, ◌+◌, ◌<◌, ◌≤◌, ◌^◌, ◌++◌, length, map}
use Rattle.std.specs.Prelude.{slice_index}
use Rattle.std.specs.Vec.Iter.{into_iter_items}
use Rattle.sig_model.specs.Bounds.{posts_to}
use Rattle.sig_model.specs.Finishing.{numbers_after, numbered}
use Rattle.sig_model.specs.Running.{to_itself, to_others}
use Rattle.sig_process.specs.Plans.{post_of}
use Rattle.sig_process.proofs.posting.send_each.Given as goal

-- what was sent so far, and what the rest will add, is all
abbrev pub invariant-loop-post : goal.invariant-loop-post
invariant-loop-post l =
    let rest = map post_of (into_iter_items l.post-iterator) in
    let all = map post_of l.fn.posts.items in
    record {
      numbers : numbers_after l.numbers rest ≡ numbers_after l.fn.numbers all;
      low : (peer : ℕ) → slice_index l.numbers peer + posts_to peer rest < 2 ^ 63;
      own : l.own.items ++ to_itself l.pid.0 (numbered l.pid.0 l.stamp l.numbers rest) ≡ l.fn.own.items ++ to_itself l.pid.0 (numbered l.pid.0 l.stamp l.fn.numbers all);
      outbox : l.outbox.items ++ to_others l.pid.0 (numbered l.pid.0 l.stamp l.numbers rest) ≡ l.fn.outbox.items ++ to_others l.pid.0 (numbered l.pid.0 l.stamp l.fn.numbers all);
      own_room : length (into_iter_items l.post-iterator) ≤ l.own.spare;
      outbox_room : length (into_iter_items l.post-iterator) ≤ l.outbox.spare;
    }
