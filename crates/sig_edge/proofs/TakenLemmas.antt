-- How much was taken from the source.
use Rattle.std.proofs.Common.{ℕ, ◌+◌, List, [], ◌++◌, Option, Some, None, refl, arith}
use Rattle.sig_base.specs.Reading.{IsRead}
use Rattle.sig_base.specs.declared.reading.ReadAll.{ReadAll}
use Rattle.sig_base.specs.declared.reading.ReadAll.TheVariants.{Whole, TooLong, ReadFault, Memory}
use Rattle.sig_edge.specs.Streams.{IsReadWithin, reading}

-- reading all of it takes at most one byte more than the limit
pub taken : (left rest : Option (List ℕ)) (before after limit : ℕ) (into : List ℕ) (result : ReadAll) → IsRead left rest before after limit into result
    → IsReadWithin (limit + 1) (reading left rest before after)
taken left rest before after limit into Whole h = (into, h.0, omega (arith, h.1))
taken left rest before after limit into TooLong h = (into, h.0, omega (arith, h.1))
taken left rest before after limit into ReadFault h = (into, h.0, omega (arith, h.1))
taken left rest before after limit into Memory h = (into ++ h.0, h.1, h.2)

-- nothing was taken
pub none_taken : (most : ℕ) (left : Option (List ℕ)) (before after : ℕ) → IsReadWithin most (reading left left before after)
none_taken most None before after = ([], tt, omega arith)
none_taken most (Some bytes) before after = ([], (bytes, refl, refl), omega arith)
