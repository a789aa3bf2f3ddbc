-- What an event does to the link of a process to one peer, and what it tells that peer: by each rule of the links, and where it leaves
-- the links.
use Rattle.std.proofs.Common.{◌≡◌, ◌≢◌, ℕ, ◌+◌, ◌≤◌, Bool, true, false, cond, ◌||◌, not, ◌==◌, List, [], ◌∷◌, ◌++◌, Option, Some, None, is_none, is_some, refl, sym, ap, ◌∙◌, subst, inl, inr, arith}
use Rattle.std.specs.Prelude.{nat_eq}
use Rattle.std.specs.Option.{option_eq}
use Rattle.std.proofs.lemmas.Bool.{cond_both, or_parts}
use Rattle.std.proofs.lemmas.Bool.Decides.{eqb_tells}
use Rattle.sig_terms.specs.declared.pid.Pid.{Pid}
use Rattle.sig_kinds.specs.declared.signal.Kind.TheVariants.{Link, Unlink}
use Rattle.sig_kinds.specs.LinkRules.{LinkState, is_active, awaited_from, activated, deactivated, link, unlink, on_link, on_unlink, on_ack}
use Rattle.sig_model.specs.ProcessState.{Post}
use Rattle.sig_model.specs.Executing.{unlink_posts}
use Rattle.sig_model.specs.LinkPair.{Word, Side, side_of, heard, heard_all, answers}
use Rattle.sig_model.specs.LinkPair.Word.{Links, Unlinks, Acks, Exits}
use Rattle.sig_model.specs.Handling.{words_if}
use Rattle.sig_model.proofs.SideLemmas.{activated_here, activated_there, deactivated_here, deactivated_there, cut_off, cut_off_here, cut_off_there, unawaited, unawaited_here, unawaited_there}

-- of the signals to be sent, what those to this peer tell it of the link
abbrev pub words_to : ℕ → List Post → List Word
words_to peer [] = []
words_to peer (p ∷ ps) = words_if (p.to == peer) p.kind ++ words_to peer ps

-- What an event that hears these words makes of the side a, whose next id is m: it hears them, answers them and may let the next id
-- rise; or it hears nothing, and a call of `link` or of `unlink` changes the side and tells the peer.
pub data Moves (ws : List Word) (a : Side) (m : ℕ) (b : Side) (n : ℕ) (said : List Word) : Type 0 where
  hears : b ≡ heard_all a ws → m ≤ n → said ≡ answers ws → Moves ws a m b n said
  sets_up : ws ≡ [] → a.active ≡ false → b ≡ record a { active = true } → n ≡ m → said ≡ Links ∷ [] → Moves ws a m b n said
  takes_down : ws ≡ [] → b ≡ record { active = false; awaited = Some m } → n ≡ m + 1 → said ≡ Unlinks m ∷ [] → Moves ws a m b n said

-- so it is with each peer, where this is heard from it
abbrev pub LinkMoves : (heard_from : ℕ → List Word) → LinkState → LinkState → List Post → Type 0
LinkMoves heard_from before after posts =
    (q : ℕ) → Moves (heard_from q) (side_of before q) before.next_id (side_of after q) after.next_id (words_to q posts)

-- nothing is heard
abbrev pub silence : ℕ → List Word
silence q = []

-- only this sender says a word
abbrev pub said_by : ℕ → Word → ℕ → List Word
said_by sender w q = cond (sender == q) (w ∷ []) []

-- what is heard changes nothing, and asks for no answer
pub record IsIdle (a : Side) (ws : List Word) : Type 0 where
  pub same : heard_all a ws ≡ a
  pub unanswered : answers ws ≡ []

pub nothing_idle : (a : Side) → IsIdle a []
nothing_idle a = record { same = refl; unanswered = refl }

-- the links are left, and no signal tells of them
pub idle_moves : (heard_from : ℕ → List Word) (before after : LinkState) (posts : List Post) → after ≡ before → ((q : ℕ) → IsIdle (side_of before q) (heard_from q))
    → ((q : ℕ) → words_to q posts ≡ []) → LinkMoves heard_from before after posts
idle_moves heard_from before after posts same idle silent q =
    hears (ap (λ l. side_of l q) same ∙ sym (idle q).same) (subst (λ (l : LinkState). before.next_id ≤ l.next_id) (sym same) (omega arith)) (silent q ∙ sym (idle q).unanswered)

-- a call of `link`
module _ (links : LinkState) (peer : ℕ) where
  abbrev link_post : List Post
  link_post = record { to = peer; kind = Link } ∷ []

  linked_now : is_active links peer ≡ false → LinkMoves silence links (activated links peer) link_post
  linked_now old q = elim (eqb_tells peer q) [
    | inl e ↦ subst (λ z. Moves [] (side_of links z) links.next_id (side_of (activated links peer) z) links.next_id (words_to z link_post)) e.1
        (sets_up refl old (activated_here links peer) refl (ap (λ c. words_if c Link ++ []) (subst (λ z. (peer == z) ≡ true) (sym e.1) e.0)))
    | inr e ↦ hears (activated_there links peer q (λ f. e.1 (sym f))) (omega arith) (ap (λ c. words_if c Link ++ []) e.0)
  ]

  pub link_moves : LinkMoves silence links (link links peer).1 (cond (link links peer).0 link_post [])
  link_moves =
      cond_both (peer == links.owner || is_active links peer) (false, links) (true, activated links peer) (λ (a : Bool × LinkState). LinkMoves silence links a.1 (cond a.0 link_post []))
      (λ e. idle_moves silence links links [] refl (λ q. nothing_idle (side_of links q)) (λ q. refl))
      (λ e. linked_now (or_parts (peer == links.owner) (is_active links peer) e).1)

-- a call of `unlink`
module _ (links : LinkState) (peer : Pid) where
  abbrev unlink_post : List Post
  unlink_post = unlink_posts peer (Some links.next_id)

  unlinked_now : LinkMoves silence links (cut_off links peer.0) unlink_post
  unlinked_now q = elim (eqb_tells peer.0 q) [
    | inl e ↦ subst (λ z. Moves [] (side_of links z) links.next_id (side_of (cut_off links peer.0) z) (links.next_id + 1) (words_to z unlink_post)) e.1
        (takes_down refl (cut_off_here links peer.0) refl (ap (λ c. words_if c (Unlink links.next_id) ++ []) (subst (λ z. (peer.0 == z) ≡ true) (sym e.1) e.0)))
    | inr e ↦ hears (cut_off_there links peer.0 q (λ f. e.1 (sym f))) (omega arith) (ap (λ c. words_if c (Unlink links.next_id) ++ []) e.0)
  ]

  pub unlink_moves : LinkMoves silence links (unlink links peer.0).1 (unlink_posts peer (unlink links peer.0).0)
  unlink_moves =
      cond_both (is_active links peer.0) (Some links.next_id, cut_off links peer.0) (None, links) (λ (a : Option ℕ × LinkState). LinkMoves silence links a.1 (unlink_posts peer a.0))
      (λ e. unlinked_now) (λ e. idle_moves silence links links [] refl (λ q. nothing_idle (side_of links q)) (λ q. refl))

-- the side of the sender has heard the word, and the others are as before
hearing : (links after : LinkState) (sender : ℕ) (w : Word) (posts : List Post) → side_of after sender ≡ heard (side_of links sender) w
    → ((q : ℕ) → q ≢ sender → side_of after q ≡ side_of links q) → after.next_id ≡ links.next_id → ((q : ℕ) → words_to q posts ≡ answers (said_by sender w q))
    → LinkMoves (said_by sender w) links after posts
hearing links after sender w posts here there next told q = elim (eqb_tells sender q) [
  | inl e ↦ hears
      (ap (λ z. side_of after z) (sym e.1) ∙ here ∙ ap (λ z. heard (side_of links z) w) e.1 ∙ ap (λ c. heard_all (side_of links q) (cond c (w ∷ []) [])) (sym e.0))
      (omega (arith, next)) (told q)
  | inr e ↦ hears (there q (λ f. e.1 (sym f)) ∙ ap (λ c. heard_all (side_of links q) (cond c (w ∷ []) [])) (sym e.0)) (omega (arith, next)) (told q)
]

-- a link signal has no effect where the link is active or an id is awaited, and else sets up the link
linked_already : (active awaiting : Bool) → (awaiting || active) ≡ true → active ≡ (active || not awaiting)
linked_already true awaiting h = refl
linked_already false true h = refl
linked_already false false h = h

linked_anew : (active awaiting : Bool) → awaiting ≡ false → true ≡ (active || not awaiting)
linked_anew true awaiting h = refl
linked_anew false true h = h
linked_anew false false h = refl

none_back : (b : Bool) (w : Word) → answers (w ∷ []) ≡ [] → [] ≡ answers (cond b (w ∷ []) [])
none_back true w e = sym e
none_back false w e = refl

ack_back : (b : Bool) (id : ℕ) → cond b (Acks id ∷ []) [] ≡ answers (cond b (Unlinks id ∷ []) [])
ack_back true id = refl
ack_back false id = refl

module _ (links : LinkState) (sender : ℕ) where
  abbrev awaited : Option ℕ
  awaited = awaited_from links sender

  abbrev Answered : Word → Bool × LinkState → Type 0
  Answered w a = LinkMoves (said_by sender w) links a.1 []

  -- the rules for a link signal, an unlink signal and an acknowledgement
  pub on_link_moves : LinkMoves (said_by sender Links) links (on_link links sender).1 []
  on_link_moves =
      let active : Bool = is_active links sender in
      cond_both (is_some awaited || active) (false, links) (true, activated links sender) (Answered Links)
      (λ e. hearing links links sender Links [] (ap (λ c. record { active = c; awaited = awaited }) (linked_already active (is_some awaited) e)) (λ q n. refl) refl
      (λ q. none_back (sender == q) Links refl))
      (λ e. hearing links (activated links sender) sender Links []
      (activated_here links sender ∙ ap (λ c. record { active = c; awaited = awaited }) (linked_anew active (is_some awaited) (or_parts (is_some awaited) active e).0))
      (activated_there links sender) refl (λ q. none_back (sender == q) Links refl))

  pub on_unlink_moves : (id : ℕ) (posts : List Post) → ((q : ℕ) → words_to q posts ≡ said_by sender (Acks id) q)
      → LinkMoves (said_by sender (Unlinks id)) links (on_unlink links sender).1 posts
  on_unlink_moves id posts told =
      hearing links (deactivated links sender) sender (Unlinks id) posts (deactivated_here links sender) (deactivated_there links sender) refl
      (λ q. told q ∙ ack_back (sender == q) id)

  pub on_ack_moves : (id : ℕ) → LinkMoves (said_by sender (Acks id)) links (on_ack links sender id).1 []
  on_ack_moves id =
      cond_both (option_eq nat_eq awaited (Some id)) (true, unawaited links sender) (false, links) (Answered (Acks id))
      (λ e. hearing links (unawaited links sender) sender (Acks id) []
      (unawaited_here links sender ∙ ap (λ c. record { active = is_active links sender; awaited = cond c None awaited }) (sym e)) (unawaited_there links sender) refl
      (λ q. none_back (sender == q) (Acks id) refl))
      (λ e. hearing links links sender (Acks id) [] (ap (λ c. record { active = is_active links sender; awaited = cond c None awaited }) (sym e)) (λ q n. refl) refl
      (λ q. none_back (sender == q) (Acks id) refl))

  -- an exit signal of a link that isn't active has no effect
  pub exit_idle : is_active links sender ≡ false → (q : ℕ) → IsIdle (side_of links q) (said_by sender Exits q)
  exit_idle old q = elim (eqb_tells sender q) [
    | inl e ↦ subst (λ c. IsIdle (side_of links q) (cond c (Exits ∷ []) [])) (sym e.0)
        (record { same = ap (λ c. record { active = c; awaited = awaited_from links q }) (sym (subst (λ z. is_active links z ≡ false) e.1 old)); unanswered = refl })
    | inr e ↦ subst (λ c. IsIdle (side_of links q) (cond c (Exits ∷ []) [])) (sym e.0) (nothing_idle (side_of links q))
  ]

  pub left_inactive : is_active (deactivated links sender) sender ≡ false
  left_inactive = ap (λ (a : Side). a.active) (deactivated_here links sender)

-- the same from another side, where it is as after the words that are heard
from_other : (w : Word) (ws : List Word) (a c b : Side) (m n : ℕ) (said : List Word) → heard_all a (w ∷ ws) ≡ heard_all c (w ∷ ws) → Moves (w ∷ ws) a m b n said → Moves (w ∷ ws) c m b n said
from_other w ws a c b m n said same (hears e le told) = hears (e ∙ same) le told
from_other w ws a c b m n said same (sets_up none old new stays one) = cc
from_other w ws a c b m n said same (takes_down none new later one) = cc

-- an exit signal ends the link before it is obeyed
pub exited_moves : (links after : LinkState) (sender : ℕ) (posts : List Post) → LinkMoves (said_by sender Exits) (deactivated links sender) after posts → LinkMoves (said_by sender Exits) links after posts
exited_moves links after sender posts h q = elim (eqb_tells sender q) [
  | inl e ↦
      let Goal : (c : Bool) (a : Side) → Type 0 = λ c a. Moves (cond c (Exits ∷ []) []) a links.next_id (side_of after q) after.next_id (words_to q posts) in
      let at : side_of (deactivated links sender) q ≡ record (side_of links q) { active = false } = subst (λ z. side_of (deactivated links sender) z ≡ record (side_of links z) { active = false }) e.1 (deactivated_here links sender) in
      subst (λ c. Goal c (side_of links q)) (sym e.0)
      (from_other Exits [] (side_of (deactivated links sender) q) (side_of links q) (side_of after q) links.next_id after.next_id (words_to q posts)
      (ap (λ (a : Side). heard_all a (Exits ∷ [])) at) (subst (λ c. Goal c (side_of (deactivated links sender) q)) e.0 (h q)))
  | inr e ↦
      subst (λ a. Moves (said_by sender Exits q) a links.next_id (side_of after q) after.next_id (words_to q posts)) (deactivated_there links sender q (λ f. e.1 (sym f))) (h q)
]
