use Rattle.std.proofs.Common.{◌≡◌, ◌++◌, map}
use Rattle.sig_process.specs.Plans.{post_of}
use Rattle.sig_process.proofs.telling.tell_all.Given as goal

-- those of the list so far were told
abbrev pub invariant-loop-one : goal.invariant-loop-one
invariant-loop-one g l = map post_of l.posts.items ≡ map post_of l.fn.before.items ++ map (λ one. g.T.Tells.post one l.reason) l.yielded
