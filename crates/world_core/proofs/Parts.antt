-- The part of a connection in a played history: no close is in it, its establishments are on the one link, and an end is up only where its
-- peer has offered.
use Rattle.std.proofs.Common.{◌≡◌, ◌∙◌, ℕ, false, List, [], ◌∷◌, refl, ap, sym, ◌||◌, true≢false}
use Rattle.std.specs.Prelude.{Option, Some, None, is_some}
use Rattle.smc_num.specs.declared.Side.{Side}
use Rattle.smc_num.specs.declared.LinkId.{LinkId}
use Rattle.smc_num.specs.Names.{other}
use Rattle.pipe_model.specs.declared.setup.Setup.{Setup}
use Rattle.pipe_model.specs.declared.entry.Entry.{Entry}
use Rattle.pipe_model.specs.History.{Offered, offered}
use Rattle.pipe_model.specs.Connections.{comes_up, is_up, items, part}
use Rattle.world_core.specs.Played.{IsPlayed}
use Rattle.world_core.specs.OneLink.{the_link}
use Rattle.world_core.specs.Wired.{EachItem, EachUpOn, keeps_open}
use Rattle.world_core.specs.Agreement.{GoesOn, IsShaken}
use Rattle.world_core.proofs.EntryItems.{each-append, on-append, items-open, items-on}

module _ (setup : Setup) (payload : List ℕ) where
  pub part-open : (group s : ℕ) (past : List Entry) (n : ℕ) → IsPlayed setup payload past n → IsShaken setup past → EachItem keeps_open (part payload group s past)
  part-open group s [] n p h = tt
  part-open group s (e ∷ past) n p h =
      let m = p.1 in
      let q = h.1 in
      let r = q.1 in
      each-append keeps_open (items payload group s e past) (part payload group s past) (items-open setup payload group s e past m.built r.0) (part-open group s past p.0 p.3 r.1)

  pub part-on : (group s : ℕ) (past : List Entry) (n : ℕ) → IsPlayed setup payload past n → IsShaken setup past → EachUpOn the_link (part payload group s past)
  part-on group s [] n p h = tt
  part-on group s (e ∷ past) n p h =
      let m = p.1 in
      let q = h.1 in
      let r = q.1 in
      on-append the_link (items payload group s e past) (part payload group s past) (items-on setup payload group s e past m.built r.0) (part-on group s past p.0 p.3 r.1)

module _ (setup : Setup) (payload : List ℕ) where
  unoffered : (x : Side) (s : ℕ) (e : Entry) (past : List Entry) → GoesOn e past → offered x s (e ∷ past) ≡ None → (o : Option Offered) → offered x s past ≡ o → o ≡ None
  unoffered x s e past g f None q = refl
  unoffered x s e past g f (Some r) q = absurd (true≢false (sym (ap (λ o. is_some o) (sym f ∙ g.kept x s r q))))

  -- what was not offered after an entry was not before
  pub not-before : (x : Side) (s : ℕ) (e : Entry) (past : List Entry) → GoesOn e past → offered x s (e ∷ past) ≡ None → offered x s past ≡ None
  not-before x s e past g f = unoffered x s e past g f (offered x s past) refl

  no-up : (x : Side) (s : ℕ) (e : Entry) (past : List Entry) → GoesOn e past → offered (other x) s past ≡ None → (l : Option LinkId) → comes_up x s e past ≡ l → is_some l ≡ false
  no-up x s e past g f None c = refl
  no-up x s e past g f (Some l) c = let u = g.ups x s l c in let v = u.1 in absurd (true≢false (sym (ap (λ q. is_some q) (sym f ∙ v.1))))

  -- an end comes up only where its peer has offered
  pub comes-not-up : (x : Side) (s : ℕ) (e : Entry) (past : List Entry) → GoesOn e past → offered (other x) s past ≡ None → is_some (comes_up x s e past) ≡ false
  comes-not-up x s e past g f = no-up x s e past g f (comes_up x s e past) refl

  -- an end is up only where its peer has offered
  pub up-offered : (x : Side) (s : ℕ) (past : List Entry) → IsShaken setup past → offered (other x) s past ≡ None → is_up x s past ≡ false
  up-offered x s [] h o = refl
  up-offered x s (e ∷ past) h o =
      let q = h.1 in
      let r = q.1 in
      let before = not-before (other x) s e past r.0 o in
      ap (λ b. b || is_up x s past) (comes-not-up x s e past r.0 before) ∙ up-offered x s past r.1 before
