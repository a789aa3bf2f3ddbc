-- How clap walks over an option and its value.
use Rattle.std.proofs.Common.{◌≡◌, ◌∙◌, ◌&&◌, ◌||◌, not, Bool, true, false, true≢false, List, [], ◌∷◌, Option, Some, None, refl, ap, ap₂}
use Rattle.std.specs.Prelude.{if◌then◌else◌, nat_lt, option_map, ⊤}
use Rattle.std.specs.Option.{option_map_or}
use Rattle.std.specs.Str.{bytes_eq}
use Rattle.clap.specs.Lexer.{long_of, short_of}
use Rattle.clap.specs.Walk.{Held, Row, Rule, Step, Text, Walk, after_flag, after_step, arg_by_id, arg_by_long, has_row, idle, long_met, long_or_other, next, option, option_word, settled, short_or_plain, trailing, used_by_id, walked, word_met}
use Rattle.clap.specs.Simple.{Shape, built}
use Rattle.clap.specs.Takes.{bundle_passes, flag_word_passes, long_passes, settle_passes, step_passes, turn_passes, use_passes, word_passes}
use Rattle.sig_host.specs.Words.{command}
use Rattle.sig_host.proofs.PairLemmas.{built_option, no_row, used_fresh, value_of, with_pair, rows_for, Pairs}

-- the command as clap builds it
abbrev pub shape : Shape
shape = (built command).top

abbrev pub rules : List Rule
rules = shape.rules

-- the command has this option
pub record IsOption (name : Text) : Type 0 where
  pub by_long : arg_by_long rules name ≡ Some (built_option name)
  pub by_id : arg_by_id rules name ≡ Some (built_option name)
  pub same : bytes_eq name name ≡ true

-- the word names this option
pub record IsNameOf (name word : Text) : Type 0 where
  pub long : long_of word ≡ Some (name, None)
  pub other : bytes_eq word (45 ∷ 45 ∷ []) ≡ false

-- the word begins with no hyphen
pub record IsPlainWord (word : Text) : Type 0 where
  pub long : long_of word ≡ None
  pub short : short_of word ≡ None
  pub other : bytes_eq word (45 ∷ 45 ∷ []) ≡ false

-- the walk after some options, of which the last one isn't used yet
abbrev pub held_at : Pairs → Option (Text × Text) → Held
held_at ps p = record { rows = rows_for ps; pending = option_map (λ (q : Text × Text). (q.0, q.1 ∷ [])) p; skip = 0 }

abbrev pub walk_at : Pairs → Option (Text × Text) → Walk
walk_at ps p = record { held = held_at ps p; waiting = idle; position = 1; is_trailing = false; stopped = None }

-- all of them
abbrev pub all_of : Pairs → Option (Text × Text) → Pairs
all_of ps None = ps
all_of ps (Some q) = with_pair ps q.0 q.1

-- the last one is an option, and it is new
abbrev pub IsReady : Pairs → Option (Text × Text) → Type 0
IsReady ps None = ⊤
IsReady ps (Some q) = IsOption q.0 × (value_of q.0 ps ≡ None)

pub settled_at : (ps : Pairs) (p : Option (Text × Text)) → IsReady ps p → settled rules (held_at ps p) ≡ held_at (all_of ps p) None
settled_at ps None ready = refl
settled_at ps (Some q) ready =
    ap (λ (o : Option Rule). record (held_at ps None) { rows = used_by_id o (q.1 ∷ []) (rows_for ps) }) ready.0.by_id
    ∙ ap (λ (rs : List Row). record (held_at ps None) { rows = rs }) (used_fresh q.0 q.1 ps ready.1)

pub settle_at : (ps : Pairs) (p : Option (Text × Text)) → IsReady ps p → settle_passes rules false (held_at ps p) ≡ true
settle_at ps None ready = refl
settle_at ps (Some q) ready =
    ap (λ (o : Option Rule). option_map_or (λ (a : Rule). use_passes false a (q.1 ∷ []) (rows_for ps)) o true) ready.0.by_id
    ∙ go (has_row q.0 (rows_for ps)) (no_row q.0 ps ready.1)
  where
    go : (b : Bool) → b ≡ false → ((not b || false) && true) ≡ true
    go true e = absurd (true≢false e)
    go false e = refl

-- the walk behind an option's name
abbrev named_at : Pairs → Text → Held
named_at ps name = record { rows = rows_for ps; pending = Some (name, []); skip = 0 }

abbrev walk_named : Pairs → Text → Walk
walk_named ps name = record { held = named_at ps name; waiting = option name; position = 1; is_trailing = false; stopped = None }

module _ (ps : Pairs) (p : Option (Text × Text)) (ready : IsReady ps p) (name word : Text) (opt : IsOption name) (is : IsNameOf name word) where
  met_name : word_met rules [] false idle 1 word (held_at ps p) ≡ (named_at (all_of ps p) name, next (option name))
  met_name =
      ap (λ (b : Bool). if b then (held_at ps p, trailing 1) else long_or_other rules idle word (long_of word) (held_at ps p)) is.other
      ∙ ap (λ o. long_or_other rules idle word o (held_at ps p)) is.long
      ∙ ap (λ (o : Option Rule). after_flag rules idle word (long_met rules o None (held_at ps p)).0 (long_met rules o None (held_at ps p)).1) opt.by_long
      ∙ ap (λ (h : Held). (record h { pending = Some (name, []) }, next (option name))) (settled_at ps p ready)

  walked_name : walked rules [] (walk_at ps p) word ≡ walk_named (all_of ps p) name
  unfolding walked
  walked_name = ap (λ (m : Held × Step). after_step rules word (walk_at ps p) m.0 m.1) met_name

  name_passes : word_passes shape [] false idle word (held_at ps p) ≡ true
  name_passes =
      ap (λ (b : Bool). b || flag_word_passes rules false (long_of word) word (held_at ps p)) is.other
      ∙ ap (λ o. flag_word_passes rules false o word (held_at ps p)) is.long
      ∙ ap (λ (o : Option Rule). long_passes rules false o None (held_at ps p)) opt.by_long
      ∙ settle_at ps p ready

  turn_name : turn_passes shape [] (walk_at ps p) word ≡ true
  turn_name = ap₂ (λ (a b : Bool). a && b) name_passes (ap (λ (m : Held × Step). step_passes shape 1 m.0 m.1) met_name)

module _ (ps : Pairs) (name value : Text) (opt : IsOption name) (is : IsPlainWord value) where
  met_value : word_met rules [] false (option name) 1 value (named_at ps name) ≡ (held_at ps (Some (name, value)), next idle)
  met_value =
      ap (λ (b : Bool). if b then (named_at ps name, trailing 1) else long_or_other rules (option name) value (long_of value) (named_at ps name)) is.other
      ∙ ap (λ o. long_or_other rules (option name) value o (named_at ps name)) is.long
      ∙ ap (λ o. short_or_plain rules (option name) value o (named_at ps name)) is.short
      ∙ ap (λ (o : Option Rule). ((option_word o name value (named_at ps name)).0, next (option_word o name value (named_at ps name)).1)) opt.by_id
      ∙ ap (λ (b : Bool). (held_at ps (Some (name, value)), next (if nat_lt (if b then 1 else 0) 1 then option name else idle))) opt.same

  walked_value : walked rules [] (walk_named ps name) value ≡ walk_at ps (Some (name, value))
  unfolding walked
  walked_value = ap (λ (m : Held × Step). after_step rules value (walk_named ps name) m.0 m.1) met_value

  value_passes : word_passes shape [] false (option name) value (named_at ps name) ≡ true
  value_passes =
      ap (λ (b : Bool). b || flag_word_passes rules false (long_of value) value (named_at ps name)) is.other
      ∙ ap (λ o. flag_word_passes rules false o value (named_at ps name)) is.long
      ∙ ap (λ o. option_map_or (λ (flags : Text). bundle_passes rules false flags (named_at ps name)) o true) is.short

  turn_value : turn_passes shape [] (walk_named ps name) value ≡ true
  turn_value = ap₂ (λ (a b : Bool). a && b) value_passes (ap (λ (m : Held × Step). step_passes shape 1 m.0 m.1) met_value)

-- clap's walk over an option and its value
module _ (ps : Pairs) (p : Option (Text × Text)) (ready : IsReady ps p) (name word value : Text) (opt : IsOption name) (is : IsNameOf name word) (plain : IsPlainWord value) where
  pub walked_pair : walked rules [] (walked rules [] (walk_at ps p) word) value ≡ walk_at (all_of ps p) (Some (name, value))
  walked_pair = ap (λ (w : Walk). walked rules [] w value) (walked_name ps p ready name word opt is) ∙ walked_value (all_of ps p) name value opt plain

  pub first_turn : turn_passes shape [] (walk_at ps p) word ≡ true
  first_turn = turn_name ps p ready name word opt is

  pub second_turn : turn_passes shape [] (walked rules [] (walk_at ps p) word) value ≡ true
  second_turn = ap (λ (w : Walk). turn_passes shape [] w value) (walked_name ps p ready name word opt is) ∙ turn_value (all_of ps p) name value opt plain
