-- An end that has offered and not fallen back has its element lent, unless it was over.
use Rattle.pipe_model.specs.Replies.{told}
use Rattle.pipe_model.specs.Lending.{lent}
use Rattle.std.proofs.Common.{◌≡◌, ap, inl, inr, refl, sym, ◌∙◌, cond}
use Rattle.std.specs.Prelude.{Bool, List, false, if◌then◌else◌, true, ℕ, ◌&&◌, ◌==◌, ◌∷◌, ◌⊎◌, None, Option, Some, [], filter, filter_map, find, length, not, option_map, slice_index_or, ◌||◌}
use Rattle.pipe_model.specs.declared.event.Event.TheVariants.{Clc, Complete, Deliver, Open, Read, Write}
use Rattle.pipe_model.specs.declared.reply.Reply.TheVariants.{Declined, FellBack, Reset, Idle, NameUsed, Opened}
use Rattle.pipe_model.specs.declared.setup.Setup.{Setup}
use Rattle.pipe_model.specs.declared.reply.Reply.{Reply}
use Rattle.pipe_model.specs.declared.reply.ResetCause.{ResetCause}
use Rattle.smc_num.specs.declared.Side.{Side}
use Rattle.pipe_model.specs.declared.entry.Entry.{Entry}
use Rattle.world_core.proofs.LinkFacts.{no-group-ends-with}
use Rattle.world_core.specs.OneLink.{Stage, the_link}
use Rattle.pipe_model.specs.declared.event.Event.{Event}
use Rattle.pipe_model.specs.Lending.{gives_up, leaves_handshake, Lending, is_over_on, lends, lends_by, returns}
use Rattle.smc_num.specs.declared.Side.TheVariants.{A, B}
use Rattle.pipe_model.specs.Connections.{EndState, HasFallen, WasReset, after_clc, after_event, after_loss, early_state, group_on, IsUp, end_state}
use Rattle.world_core.specs.Sockets.{AcceptFallen, AcceptRefused, Fallen, IsWorld, Proposed, Refused, Socket, Unopened, early_at, HasWorld, StandsAt, on_link, opened_at, up_at}
use Rattle.std.specs.Option.{option_or}
use Rattle.world_core.specs.Lent.{WasNeverOver}
use Rattle.clc_wire.specs.declared.offer.Offer.{Offer}
use Rattle.world_core.proofs.Openings.{early-apart}
use Rattle.pipe_model.specs.declared.reply.Lack.TheVariants.{NotCapable}
use Rattle.std.proofs.lemmas.Bool.{eqb-true}
use Rattle.world_core.proofs.TakenMessages.{end-is}
use Rattle.pipe_model.specs.Lawful.{reply_of}
use Rattle.world_core.proofs.LendingFacts.{find-append, found-in, lends-for}
use Rattle.pipe_model.specs.Fits.{Fits}
use Rattle.world_core.specs.Played.{IsMade, IsOneLink, IsPlayed}
use Rattle.world_core.proofs.PlayedWorlds.{played}
use Rattle.pipe_model.specs.Fabric.{loses_group_with}
use Rattle.pipe_model.specs.Replies.{clc_told, expects, front_told, open_told}
use Rattle.pipe_model.specs.Fallback.{front, is_opened, is_raw}
use Rattle.pipe_model.specs.History.{Offered, offer_in, offered}
use Rattle.smc_num.specs.Names.{head, other}
use Rattle.world_core.proofs.Plain.{and-both}

-- the early state after an entry, in a world where no group ends
early-is : (setup : Setup) (from to : Stage) (e : Entry) (older : List Entry) → IsWorld setup from older → IsWorld setup to (e ∷ older) → (x : Side) (s : ℕ) → early_state x s (e ∷ older) ≡ after_event x s e.event e.reply (early_state x s older)
early-is setup from to e older w v x s = ap (λ b. after_loss b (group_on s older) (after_event x s e.event e.reply (early_state x s older))) (no-group-ends-with setup from to e older w v x (group_on s older))

-- an answer that ends a handshake
given-up : (reply : Reply) (state : EndState) → gives_up reply ≡ true → (after_clc reply state ≡ HasFallen) ⊎ ((cause : ResetCause) × (after_clc reply state ≡ WasReset cause))
given-up (Declined lack) state e = inl refl
given-up FellBack state e = inl refl
given-up (Reset cause) state e = inr (cause, refl)
given-up _ state e = cc

left : (x : Side) (s : ℕ) (event : Event) (reply : Reply) (state : EndState) → leaves_handshake x s event reply ≡ true → (after_event x s event reply state ≡ HasFallen) ⊎ ((cause : ResetCause) × (after_event x s event reply state ≡ WasReset cause))
left A s (Clc t B) reply state e =
    let both = and-both (s == t) (gives_up reply) e in
    let here : after_event A s (Clc t B) reply state ≡ after_clc reply state = ap (λ b. if b then after_clc reply state else state) both.0 in
    elim (given-up reply state both.1) [ inl f ↦ inl (here ∙ f) | inr f ↦ inr (f.0, here ∙ f.1) ]
left B s (Clc t A) reply state e =
    let both = and-both (s == t) (gives_up reply) e in
    let here : after_event B s (Clc t A) reply state ≡ after_clc reply state = ap (λ b. if b then after_clc reply state else state) both.0 in
    elim (given-up reply state both.1) [ inl f ↦ inl (here ∙ f) | inr f ↦ inr (f.0, here ∙ f.1) ]
left A s (Clc t A) reply state e = cc
left B s (Clc t B) reply state e = cc
left A s _ reply state e = cc
left B s _ reply state e = cc

-- no end is reset before it is up
never-reset : (k : Socket) (x : Side) (cause : ResetCause) → early_at k x ≡ WasReset cause → ⊥
never-reset Unopened x cause e = cc
never-reset Proposed A cause e = cc
never-reset Proposed B cause e = cc
never-reset _ A cause e = cc
never-reset _ B cause e = cc

-- an end that leaves its handshake so has fallen back
pub leaves-falls : (setup : Setup) (from to : Stage) (e : Entry) (older : List Entry) → IsWorld setup from older → IsWorld setup to (e ∷ older) → (x : Side) (s : ℕ) → leaves_handshake x s e.event e.reply ≡ true → early_state x s (e ∷ older) ≡ HasFallen
leaves-falls setup from to e older w v x s h =
    let here = early-is setup from to e older w v x s in
    let k = v.sockets s in
    let at = k.stands in
    elim (left x s e.event e.reply (early_state x s older) h) [ inl f ↦ here ∙ f | inr f ↦ absurd (never-reset k.at x f.0 (sym (at.early x) ∙ (here ∙ f.1))) ]

-- an end that has fallen back is not up
fallen-not-up : (k : Socket) (x : Side) → early_at k x ≡ HasFallen → up_at k x ≡ false
fallen-not-up Fallen x e = refl
fallen-not-up (Refused r) B e = refl
fallen-not-up (AcceptRefused o r) A e = refl
fallen-not-up (AcceptFallen o) x e = refl
fallen-not-up _ A e = cc
fallen-not-up _ B e = cc

fallen-opened : (k : Socket) (x : Side) → early_at k x ≡ HasFallen → opened_at k ≡ true
fallen-opened Unopened x e = cc
fallen-opened _ x e = refl

pub fallen-end : (setup : Setup) (k : Socket) (s : ℕ) (past : List Entry) (x : Side) → StandsAt setup k s past → early_state x s past ≡ HasFallen → end_state x s past ≡ HasFallen
fallen-end setup k s past x at e =
    let here : early_at k x ≡ HasFallen = sym (at.early x) ∙ e in
    end-is setup k s past at x ∙ (ap (λ b. if b then IsUp else early_at k x) (fallen-not-up k x here) ∙ here)

-- it stays so
module _ (setup : Setup) (payload : List ℕ) (older : List Entry) (before : ℕ) where
  opens-not : (t : ℕ) (reply : Reply) → is_opened t older ≡ true → reply ≡ open_told setup t older → reply ≡ NameUsed
  opens-not t reply opened r = r ∙ ap (λ b. if b || is_raw t older then NameUsed else if not (slice_index_or setup.capable 0 false && slice_index_or setup.capable 1 false) then Declined (NotCapable (slice_index_or setup.capable 0 false) (slice_index_or setup.capable 1 false)) else Opened) opened

  after-open : (x : Side) (s t : ℕ) (reply : Reply) → is_opened s older ≡ true → reply ≡ open_told setup t older → after_event x s (Open t) reply HasFallen ≡ HasFallen
  after-open x s t reply opened r = by_test (s == t) refl x
    where
      by_test : (b : Bool) → (s == t) ≡ b → (y : Side) → after_event y s (Open t) reply HasFallen ≡ HasFallen
      by_test true e A = ap (λ (q : Reply). after_event A s (Open t) q HasFallen) (opens-not t reply (ap (λ n. is_opened n older) (sym (eqb-true s t e)) ∙ opened) r)
      by_test true e B = ap (λ (q : Reply). after_event B s (Open t) q HasFallen) (opens-not t reply (ap (λ n. is_opened n older) (sym (eqb-true s t e)) ∙ opened) r)
      by_test false e y = early-apart setup 0 t older y s reply HasFallen e

  clc-idle : (t : ℕ) (dir : Side) → end_state (other dir) t older ≡ HasFallen → clc_told setup payload t dir older ≡ Idle
  clc-idle t dir e = ap (λ q. if expects q then front_told setup payload (other dir) t older (front payload dir t older) else Idle) e

  after-taking : (x : Side) (s t : ℕ) (dir : Side) (reply : Reply) → end_state x s older ≡ HasFallen → reply ≡ clc_told setup payload t dir older → after_event x s (Clc t dir) reply HasFallen ≡ HasFallen
  after-taking A s t A reply fallen r = refl
  after-taking B s t B reply fallen r = refl
  after-taking A s t B reply fallen r = by_test (s == t) refl
    where
      by_test : (b : Bool) → (s == t) ≡ b → (if b then after_clc reply HasFallen else HasFallen) ≡ HasFallen
      by_test true e = ap (λ q. after_clc q HasFallen) (r ∙ clc-idle t B (ap (λ n. end_state A n older) (sym (eqb-true s t e)) ∙ fallen))
      by_test false e = refl
  after-taking B s t A reply fallen r = by_test (s == t) refl
    where
      by_test : (b : Bool) → (s == t) ≡ b → (if b then after_clc reply HasFallen else HasFallen) ≡ HasFallen
      by_test true e = ap (λ q. after_clc q HasFallen) (r ∙ clc-idle t A (ap (λ n. end_state B n older) (sym (eqb-true s t e)) ∙ fallen))
      by_test false e = refl

  falls-on : (x : Side) (s : ℕ) (event : Event) (reply : Reply) → Fits setup (length payload) event → reply ≡ reply_of before (told setup payload older event) → end_state x s older ≡ HasFallen → is_opened s older ≡ true
      → after_event x s event reply HasFallen ≡ HasFallen
  falls-on x s (Open t) reply built r fallen opened = after-open x s t reply opened r
  falls-on x s (Clc t dir) reply built r fallen opened = after-taking x s t dir reply fallen r
  falls-on A s (Write end at len) reply built r fallen opened = refl
  falls-on B s (Write end at len) reply built r fallen opened = refl
  falls-on A s (Read end len) reply built r fallen opened = refl
  falls-on B s (Read end len) reply built r fallen opened = refl
  falls-on A s (Deliver slot dir) reply built r fallen opened = refl
  falls-on B s (Deliver slot dir) reply built r fallen opened = refl
  falls-on A s (Complete slot dir) reply built r fallen opened = refl
  falls-on B s (Complete slot dir) reply built r fallen opened = refl
  falls-on x s _ reply built r fallen opened = absurd built

pub stays-fallen : (setup : Setup) (payload : List ℕ) (from to : Stage) (before : ℕ) (e : Entry) (older : List Entry) → IsMade setup payload older before e → IsWorld setup from older → IsWorld setup to (e ∷ older)
    → (x : Side) (s : ℕ) → early_state x s older ≡ HasFallen → early_state x s (e ∷ older) ≡ HasFallen
stays-fallen setup payload from to before e older made w v x s fallen =
    let h = w.sockets s in
    let at = h.stands in
    let here : early_at h.at x ≡ HasFallen = sym (at.early x) ∙ fallen in
    early-is setup from to e older w v x s
    ∙ (ap (λ q. after_event x s e.event e.reply q) fallen
    ∙ falls-on setup payload older before x s e.event e.reply made.built made.reply (fallen-end setup h.at s older x at fallen) (at.opened ∙ fallen-opened h.at x here))

-- a lending that passes a test is found among those that do
find-filter : (g f : Lending → Bool) (ls : List Lending) (l : Lending) → find g ls ≡ Some l → f l ≡ true → find g (filter f ls) ≡ Some l
find-filter g f [] l e h = cc
find-filter g f (k ∷ ls) l e h = by_tests (g k) (f k) refl refl e (λ r. find-filter g f ls l r h)
  where
    some-is : (a b : Lending) → Some a ≡ Some b → a ≡ b
    some-is a b e = cc

    by_tests : (a b : Bool) → g k ≡ a → f k ≡ b → cond a (Some k) (find g ls) ≡ Some l → (find g ls ≡ Some l → find g (filter f ls) ≡ Some l) → find g (cond b (k ∷ filter f ls) (filter f ls)) ≡ Some l
    by_tests true true i j q rest = ap (λ b. cond b (Some k) (find g (filter f ls))) i ∙ q
    by_tests true false i j q rest = let same : f k ≡ true = ap f (some-is k l q) ∙ h in let wrong : false ≡ true = sym j ∙ same in cc
    by_tests false true i j q rest = ap (λ b. cond b (Some k) (find g (filter f ls))) i ∙ rest q
    by_tests false false i j q rest = rest q

-- the lending of an offer is among those that stand, or its end has fallen back
abbrev pub StandsOrFell : Setup → List ℕ → Side → List Entry → Type 0
StandsOrFell setup payload x past = (s : ℕ) (o : Offer) → offered x s past ≡ on_link o → (find (λ l. l.s == s) (lent setup payload x past) ≡ Some (lends_by s the_link o)) ⊎ (early_state x s past ≡ HasFallen)

pub lent-or-fell : (setup : Setup) → IsOneLink setup → (payload : List ℕ) (past : List Entry) (n : ℕ) → IsPlayed setup payload past n → (x : Side) → WasNeverOver setup payload x past → StandsOrFell setup payload x past
lent-or-fell setup one payload [] n p x never s o e = cc
lent-or-fell setup one payload (d ∷ older) n p x never s o e = by_offer (head (filter_map (offer_in x s) d.posts)) refl e (lent-or-fell setup one payload older p.0 p.3 x never.1 s o)
  where
    made : IsMade setup payload older p.0 d
    made = p.1

    g : HasWorld setup older
    g = played setup one payload older p.0 p.3

    v : HasWorld setup (d ∷ older)
    v = played setup one payload (d ∷ older) n p

    over : is_over_on setup payload x (lends_by s the_link o) (d ∷ older) ≡ false
    over = let f = never.0 in f s o e

    found-new : (q : Option Offered) → head (filter_map (offer_in x s) d.posts) ≡ q
        → find (λ l. l.s == s) (lent setup payload x (d ∷ older)) ≡ option_or (option_map (lends-for s) q) (find (λ l. l.s == s) (filter (λ l. not (returns setup payload x d older l)) (lent setup payload x older)))
    found-new q f =
        find-append (λ l. l.s == s) (filter_map (lends x) d.posts) (filter (λ l. not (returns setup payload x d older l)) (lent setup payload x older))
        ∙ ap (λ (r : Option Lending). option_or r (find (λ l. l.s == s) (filter (λ l. not (returns setup payload x d older l)) (lent setup payload x older)))) (found-in x s d.posts ∙ ap (λ (r : Option Offered). option_map (lends-for s) r) f)

    stays : (b : Bool) → leaves_handshake x s d.event d.reply ≡ b → head (filter_map (offer_in x s) d.posts) ≡ None → find (λ l. l.s == s) (lent setup payload x older) ≡ Some (lends_by s the_link o)
        → (find (λ l. l.s == s) (lent setup payload x (d ∷ older)) ≡ Some (lends_by s the_link o)) ⊎ (early_state x s (d ∷ older) ≡ HasFallen)
    stays true h f found = inr (leaves-falls setup g.stage v.stage d older g.world v.world x s h)
    stays false h f found =
        let kept : not (returns setup payload x d older (lends_by s the_link o)) ≡ true =
        ap (λ b. not (b || (loses_group_with x 1 d older || is_over_on setup payload x (lends_by s the_link o) (d ∷ older)))) h
        ∙ (ap (λ b. not (b || is_over_on setup payload x (lends_by s the_link o) (d ∷ older))) (no-group-ends-with setup g.stage v.stage d older g.world v.world x 1) ∙ ap (λ b. not b) over) in
        inl (found-new None f ∙ find-filter (λ l. l.s == s) (λ l. not (returns setup payload x d older l)) (lent setup payload x older) (lends_by s the_link o) found kept)

    by_offer : (q : Option Offered) → head (filter_map (offer_in x s) d.posts) ≡ q → option_or (head (filter_map (offer_in x s) d.posts)) (offered x s older) ≡ on_link o
        → (offered x s older ≡ on_link o → (find (λ l. l.s == s) (lent setup payload x older) ≡ Some (lends_by s the_link o)) ⊎ (early_state x s older ≡ HasFallen))
        → (find (λ l. l.s == s) (lent setup payload x (d ∷ older)) ≡ Some (lends_by s the_link o)) ⊎ (early_state x s (d ∷ older) ≡ HasFallen)
    by_offer (Some q) f h rest = inl (found-new (Some q) f ∙ ap (λ (r : Option Offered). option_or (option_map (lends-for s) r) (find (λ l. l.s == s) (filter (λ l. not (returns setup payload x d older l)) (lent setup payload x older)))) (sym (ap (λ (r : Option Offered). option_or r (offered x s older)) f) ∙ h))
    by_offer None f h rest =
        elim (rest (sym (ap (λ (r : Option Offered). option_or r (offered x s older)) f) ∙ h)) [
          | inl found ↦ stays (leaves_handshake x s d.event d.reply) refl f found
          | inr fallen ↦ inr (stays-fallen setup payload g.stage v.stage p.0 d older made g.world v.world x s fallen)
        ]
