-- How an end comes up with an entry: by a CLC message in later contact, or as its first link is confirmed.
use Rattle.std.proofs.Common.{Bool, List, ap, eqb-true, false, if◌then◌else◌, refl, sym, true, ℕ, ◌==◌, ◌∙◌, ◌∷◌, ◌≡◌}
use Rattle.std.specs.Prelude.{None, Option, Some}
use Rattle.pipe_model.specs.declared.event.Event.TheVariants.{Clc as ClcEvent}
use Rattle.pipe_model.specs.Connections.{comes_up}
use Rattle.std.specs.Option.{option_or}
use Rattle.history_laws.specs.Words.{A, B, Entry, Established, Event, LinkId, Reply, Setup, Side, named_link, other, up_by}
use Rattle.history_laws.specs.Made.{IsMadeAll}
use Rattle.history_laws.proofs.Basics.{none-is, some-is}
use Rattle.link_laws.specs.Awaited.{first_up}

module _ (setup : Setup) (payload : List ℕ) (e : Entry) (past : List Entry) (m : IsMadeAll setup payload (e ∷ past)) (s : ℕ) where
  -- how an end comes up by a CLC message
  up-event : (x : Side) (v : Event) (r : Reply) (link : LinkId) → up_by x s v r past ≡ Some link → (v ≡ ClcEvent s (other x)) × ((r ≡ Established) × (named_link s past ≡ Some link))
  up-event A (ClcEvent t B) Established link u = by (s == t) refl u
    where
      by : (b : Bool) → (s == t) ≡ b → (if b then named_link s past else None) ≡ Some link → (ClcEvent t B ≡ ClcEvent s B) × ((Established ≡ Established) × (named_link s past ≡ Some link))
      by true q k = (ap (λ n. ClcEvent n B) (sym (eqb-true s t q)), (refl, k))
      by false q k = absurd (none-is link k)
  up-event B (ClcEvent t A) Established link u = by (s == t) refl u
    where
      by : (b : Bool) → (s == t) ≡ b → (if b then named_link s past else None) ≡ Some link → (ClcEvent t A ≡ ClcEvent s A) × ((Established ≡ Established) × (named_link s past ≡ Some link))
      by true q k = (ap (λ n. ClcEvent n A) (sym (eqb-true s t q)), (refl, k))
      by false q k = absurd (none-is link k)
  up-event A v r link u = absurd (none-is link u)
  up-event B v r link u = absurd (none-is link u)

  -- an establishment, by its kind
  pub by-kind : (P : Type 0) (x : Side) (link : LinkId) → comes_up x s e past ≡ Some link → (e.event ≡ ClcEvent s (other x) → e.reply ≡ Established → named_link s past ≡ Some link → P) → (first_up x s e past ≡ Some link → P) → P
  by-kind P x link c later first = by (up_by x s e.event e.reply past) refl
    where
      by : (o : Option LinkId) → up_by x s e.event e.reply past ≡ o → P
      by None i = first (sym (ap (λ o. option_or o (first_up x s e past)) i) ∙ c)
      by (Some l) i =
          let same : l ≡ link = some-is l link (sym (ap (λ o. option_or o (first_up x s e past)) i) ∙ c) in
          let q = up-event x e.event e.reply link (i ∙ ap (λ k. Some k) same) in
          let r = q.1 in
          later q.0 r.0 r.1
