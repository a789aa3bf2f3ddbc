-- What a record says of each kind of signal (this project's own): its word, and the fields behind it.
use Rattle.std.specs.Prelude.{ℕ, List, [], ◌∷◌, codes}
use Rattle.sig_kinds.specs.declared.signal.Kind.{Kind}
use Rattle.sig_kinds.specs.declared.signal.Kind.TheVariants as kind
use Rattle.sig_record.specs.Readers.{Reader}
use Rattle.sig_record.specs.Phrases.{a_wide, a_reference, a_term, a_link, Row, Phrase, says, phrase_text, rows_front}

abbrev pub message : Row Kind
message = record { word = codes "message"; fields = a_term ∷ []; make = λ x. kind.Message x.0 }

abbrev pub alias_message : Row Kind
alias_message = record { word = codes "alias"; fields = a_reference ∷ a_term ∷ []; make = λ x. kind.AliasMessage x.0 x.1.0 }

abbrev pub link : Row Kind
link = record { word = codes "link"; fields = []; make = λ x. kind.Link }

abbrev pub unlink : Row Kind
unlink = record { word = codes "unlink"; fields = a_wide ∷ []; make = λ x. kind.Unlink x.0 }

abbrev pub unlink_ack : Row Kind
unlink_ack = record { word = codes "unlink_ack"; fields = a_wide ∷ []; make = λ x. kind.UnlinkAck x.0 }

abbrev pub monitor : Row Kind
monitor = record { word = codes "monitor"; fields = a_reference ∷ []; make = λ x. kind.Monitor x.0 }

abbrev pub demonitor : Row Kind
demonitor = record { word = codes "demonitor"; fields = a_reference ∷ []; make = λ x. kind.Demonitor x.0 }

abbrev pub exit : Row Kind
exit = record { word = codes "exit"; fields = a_link ∷ a_term ∷ []; make = λ x. kind.Exit x.1.0 x.0 }

abbrev pub down : Row Kind
down = record { word = codes "down"; fields = a_reference ∷ a_term ∷ []; make = λ x. kind.Down x.0 x.1.0 }

-- the row of a kind, and what its fields say
abbrev pub kind_phrase : Kind → Phrase
kind_phrase (kind.Message term) = says message (term, tt)
kind_phrase (kind.AliasMessage reference term) = says alias_message (reference, (term, tt))
kind_phrase kind.Link = says link tt
kind_phrase (kind.Unlink id) = says unlink (id, tt)
kind_phrase (kind.UnlinkAck id) = says unlink_ack (id, tt)
kind_phrase (kind.Monitor reference) = says monitor (reference, tt)
kind_phrase (kind.Demonitor reference) = says demonitor (reference, tt)
kind_phrase (kind.Exit reason linked) = says exit (linked, (reason, tt))
kind_phrase (kind.Down reference reason) = says down (reference, (reason, tt))

abbrev pub kind_text : Kind → List ℕ
kind_text k = phrase_text (kind_phrase k)

-- a word that begins another one stands behind it
abbrev pub kind_rows : List (Row Kind)
kind_rows = message ∷ alias_message ∷ link ∷ unlink_ack ∷ unlink ∷ monitor ∷ demonitor ∷ exit ∷ down ∷ []

unfoldable pub kind_front : Reader Kind
kind_front = rows_front kind_rows
