-- The handshake gives what the pipes need of it: the one link, the offers and the ends that come up.
use Rattle.std.proofs.Common.{◌≡◌, ◌∙◌, ◌==◌, ◌⊎◌, inl, inr, ℕ, Bool, true, false, if◌then◌else◌, List, [], ◌∷◌, filter_map, refl, ap, sym, ◌&&◌, true≢false, eqb-true}
use Rattle.std.specs.Prelude.{Option, Some, None, is_some, unwrap_or}
use Rattle.std.specs.Option.{option_or}
use Rattle.smc_num.specs.declared.Side.{Side}
use Rattle.smc_num.specs.declared.Side.TheVariants.{A, B}
use Rattle.smc_num.specs.Names.{same_side, head}
use Rattle.smc_num.specs.Links.{link_at}
use Rattle.pipe_model.specs.declared.setup.Setup.{Setup}
use Rattle.pipe_model.specs.declared.entry.Entry.{Entry}
use Rattle.pipe_model.specs.History.{Offered, offered, offer_in}
use Rattle.pipe_model.specs.Fabric.{Fabric, latest}
use Rattle.pipe_model.specs.Posts.{connection_posts}
use Rattle.pipe_model.specs.Lawful.{draft}
use Rattle.world_core.specs.Played.{IsMade}
use Rattle.world_core.specs.OneLink.{the_link, Stage, NoLink, Begun, Made, Asking, LiveAtA, LiveAtBoth, fabric_at, is_made, IsAtStage}
use Rattle.world_core.specs.Sockets.{Socket, Unopened, Fallen, Proposed, Refused, FirstAccepted, FirstConfirmed, AwaitsLink, FirstUpAtA, FirstUp, Accepted, AcceptRefused, AcceptFallen, Confirmed, Up, offered_at, up_at}
use Rattle.world_core.specs.Agreement.{IsOnlyLink}
use Rattle.world_core.proofs.DataPosts.{connections-data, unseen-filter_map, no-offer}
use Rattle.world_core.proofs.Landings.{not-dead}
use Rattle.world_core.proofs.NewOffers.{NoOffers, OneOffer}
use Rattle.world_core.proofs.Plain.{and-both, same-is, none-some}
use Rattle.world_core.proofs.LinkFacts.{by-up}

-- the one link
latest-at : (stage : Stage) → (link_at 1 (fabric_at stage).latest ≡ None) ⊎ ((link_at 1 (fabric_at stage).latest ≡ Some the_link) × (is_made stage ≡ true))
latest-at NoLink = inl refl
latest-at (Begun s) = inl refl
latest-at (Made s) = inr (refl, refl)
latest-at (Asking s qp) = inr (refl, refl)
latest-at (LiveAtA s qp) = inr (refl, refl)
latest-at (LiveAtBoth s) = inr (refl, refl)

pub only-link : (setup : Setup) (stage : Stage) (past : List Entry) → IsAtStage setup stage past → IsOnlyLink past
only-link setup stage past at = by (latest-at stage)
  where
    latest_is : latest 1 past ≡ link_at 1 (fabric_at stage).latest
    latest_is = ap (λ (f : Fabric). link_at 1 f.latest) at.fabric_is

    by : (link_at 1 (fabric_at stage).latest ≡ None) ⊎ ((link_at 1 (fabric_at stage).latest ≡ Some the_link) × (is_made stage ≡ true)) → IsOnlyLink past
    by (inl e) = inl (latest_is ∙ e)
    by (inr e) = inr (latest_is ∙ e.0, not-dead setup stage past at e.1)

-- offers at a step
some-link : (o r : Offered) → Some o ≡ Some r → o.link ≡ the_link → r.link ≡ the_link
some-link o r e l = sym (ap (λ (q : Option Offered). (unwrap_or q o).link) e) ∙ l

pub offer-link : (k : Socket) (x : Side) (r : Offered) → offered_at k x ≡ Some r → r.link ≡ the_link
offer-link (FirstAccepted o) B r e = some-link _ r e refl
offer-link (FirstConfirmed o p) A r e = some-link _ r e refl
offer-link (FirstConfirmed o p) B r e = some-link _ r e refl
offer-link (AwaitsLink o p) A r e = some-link _ r e refl
offer-link (AwaitsLink o p) B r e = some-link _ r e refl
offer-link (FirstUpAtA o p) A r e = some-link _ r e refl
offer-link (FirstUpAtA o p) B r e = some-link _ r e refl
offer-link (FirstUp o p) A r e = some-link _ r e refl
offer-link (FirstUp o p) B r e = some-link _ r e refl
offer-link (Accepted o) B r e = some-link _ r e refl
offer-link (AcceptRefused o q) B r e = some-link _ r e refl
offer-link (AcceptFallen o) B r e = some-link _ r e refl
offer-link (Confirmed o p) A r e = some-link _ r e refl
offer-link (Confirmed o p) B r e = some-link _ r e refl
offer-link (Up o p) A r e = some-link _ r e refl
offer-link (Up o p) B r e = some-link _ r e refl
offer-link (FirstAccepted o) A r e = absurd (none-some r e)
offer-link (Accepted o) A r e = absurd (none-some r e)
offer-link (AcceptRefused o q) A r e = absurd (none-some r e)
offer-link (AcceptFallen o) A r e = absurd (none-some r e)
offer-link Unopened x r e = absurd (none-some r e)
offer-link Fallen x r e = absurd (none-some r e)
offer-link Proposed x r e = absurd (none-some r e)
offer-link (Refused q) x r e = absurd (none-some r e)

pub is-none : (o : Offered) → Some o ≡ None → ⊥
is-none o e = true≢false (ap (λ (q : Option Offered). is_some q) e)

pub offer-answer : (k : Socket) → offered_at k B ≡ None → offered_at k A ≡ None
offer-answer (FirstConfirmed o p) e = absurd (is-none _ e)
offer-answer (AwaitsLink o p) e = absurd (is-none _ e)
offer-answer (FirstUpAtA o p) e = absurd (is-none _ e)
offer-answer (FirstUp o p) e = absurd (is-none _ e)
offer-answer (Confirmed o p) e = absurd (is-none _ e)
offer-answer (Up o p) e = absurd (is-none _ e)
offer-answer _ e = refl

-- an end that is up at B has an offer of A
pub up-answered : (k : Socket) → up_at k B ≡ true → is_some (offered_at k A) ≡ true
up-answered k = by-up (λ j y. is_some (offered_at j A) ≡ true) (λ o p. refl) (λ o p y. refl) (λ o p. refl) (λ o p y. refl) k B

-- what an entry offers is what handshake and flows offer with it
module _ (setup : Setup) (payload : List ℕ) (e : Entry) (past : List Entry) (before : ℕ) (made : IsMade setup payload past before e) where
  abbrev pub D : Entry
  D = draft setup payload past before e.event

  entry-offers : (x : Side) (s : ℕ) → filter_map (offer_in x s) e.posts ≡ filter_map (offer_in x s) D.posts
  entry-offers x s = ap (λ ps. filter_map (offer_in x s) ps) made.posts ∙ unseen-filter_map (offer_in x s) (no-offer x s) D.posts (connection_posts setup payload D past) (connections-data setup payload D past)

  offered-then : (x : Side) (s : ℕ) → offered x s (e ∷ past) ≡ option_or (head (filter_map (offer_in x s) D.posts)) (offered x s past)
  offered-then x s = ap (λ os. option_or (head os) (offered x s past)) (entry-offers x s)

  -- nothing offered, or once
  abbrev pub Choice : Type 0
  Choice = NoOffers D.posts ⊎ OneOffer e.event past D.posts

  pub offered-none : NoOffers D.posts → (x : Side) (s : ℕ) → offered x s (e ∷ past) ≡ offered x s past
  offered-none c x s = offered-then x s ∙ ap (λ os. option_or (head os) (offered x s past)) (c.offers x s)

  abbrev if_there : Bool → Offered → Option Offered → Option Offered
  if_there b o old = option_or (head (if b then o ∷ [] else [])) old

  offered-one : (c : OneOffer e.event past D.posts) (x : Side) (s : ℕ) → offered x s (e ∷ past) ≡ if_there (same_side x c.y && (s == c.t)) c.offer (offered x s past)
  offered-one c x s = offered-then x s ∙ ap (λ os. option_or (head os) (offered x s past)) (c.offers x s)

  -- an offer that was made stays
  pub kept-by : Choice → (x : Side) (s : ℕ) (o : Offered) → offered x s past ≡ Some o → offered x s (e ∷ past) ≡ Some o
  kept-by (inl c) x s o f = offered-none c x s ∙ f
  kept-by (inr c) x s o f = offered-one c x s ∙ by (same_side x c.y && (s == c.t)) refl
    where
      by : (b : Bool) → (same_side x c.y && (s == c.t)) ≡ b → if_there b c.offer (offered x s past) ≡ Some o
      by false g = f
      by true g =
          let q = and-both (same_side x c.y) (s == c.t) g in
          let same : offered x s past ≡ offered c.y c.t past = ap (λ z. offered z s past) (same-is x c.y q.0) ∙ ap (λ r. offered c.y r past) (eqb-true s c.t q.1) in
          absurd (is-none o (sym f ∙ same ∙ c.new))

  -- an offer after an entry is an old one, or the new one
  pub old-or-new : (c : OneOffer e.event past D.posts) (x : Side) (s : ℕ) (o : Offered) → offered x s (e ∷ past) ≡ Some o → (offered x s past ≡ Some o) ⊎ ((x ≡ c.y) × ((s ≡ c.t) × (c.offer ≡ o)))
  old-or-new c x s o f = by (same_side x c.y && (s == c.t)) refl
    where
      by : (b : Bool) → (same_side x c.y && (s == c.t)) ≡ b → (offered x s past ≡ Some o) ⊎ ((x ≡ c.y) × ((s ≡ c.t) × (c.offer ≡ o)))
      by false g = inl (sym (ap (λ b. if_there b c.offer (offered x s past)) g) ∙ sym (offered-one c x s) ∙ f)
      by true g =
          let q = and-both (same_side x c.y) (s == c.t) g in
          let r : Some c.offer ≡ Some o = sym (ap (λ b. if_there b c.offer (offered x s past)) g) ∙ sym (offered-one c x s) ∙ f in
          inr (same-is x c.y q.0, (eqb-true s c.t q.1, ap (λ (p : Option Offered). unwrap_or p c.offer) r))
