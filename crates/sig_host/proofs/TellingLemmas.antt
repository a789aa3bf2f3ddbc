-- What is told of a status.
use Rattle.std.proofs.Common.{◌≡◌, ℕ, List, Option, Result, sym, subst}
use Rattle.sig_edge.specs.Streams.{writing}
use Rattle.sig_edge.specs.Told.{IsTold}
use Rattle.sig_host.specs.declared.status.Status.{Status}
use Rattle.sig_host.specs.Told.{told_text}

pub told_of : {T E : Type 0} (a b : Option (List ℕ)) (m n : ℕ) (now s : Status) (summary : Option (List ℕ)) (r : Result T E) → now ≡ s
    → IsTold (writing a b m n) (told_text s summary) r → IsTold (writing a b m n) (told_text now summary) r
told_of a b m n now s summary r e h = subst (λ (t : Status). IsTold (writing a b m n) (told_text t summary) r) (sym e) h
