-- A side began its group on the socket of its first offer, where it has made offers on no other.
use Rattle.std.proofs.Common.{◌≡◌, ◌∙◌, ℕ, ◌==◌, Bool, true, false, if◌then◌else◌, List, [], ◌∷◌, filter_map, refl, ap, sym, subst, true≢false, eqb-true, eq-eqb}
use Rattle.std.specs.Prelude.{Option, Some, None, is_some, option_map, unwrap_or}
use Rattle.std.specs.List.{cons_option}
use Rattle.std.specs.Option.{option_or}
use Rattle.smc_num.specs.declared.Side.{Side}
use Rattle.smc_num.specs.declared.Side.TheVariants.{A, B}
use Rattle.smc_num.specs.declared.LinkId.{LinkId}
use Rattle.smc_num.specs.Names.{head}
use Rattle.clc_wire.specs.declared.offer.Offer.{Offer}
use Rattle.clc_wire.specs.declared.message.ClcMessage.TheVariants.{Proposal, Accept, Confirm, Decline}
use Rattle.pipe_model.specs.declared.post.Post.{Post}
use Rattle.pipe_model.specs.declared.post.Post.TheVariants.{Write, Cdc, Llc, Clc}
use Rattle.pipe_model.specs.declared.entry.Entry.{Entry}
use Rattle.pipe_model.specs.History.{Offered, offered_if, offer_in, offered}
use Rattle.world_core.specs.Managers.{begins_on, first_on}

-- a post offers on one socket, or on none
data Offering (x : Side) (p : Post) : Type 0 where
  Offers : (r : ℕ) (link : LinkId) (o : Offer) → ((s : ℕ) → offer_in x s p ≡ offered_if (s == r) link o) → begins_on x p ≡ (if o.first then Some r else None) → Offering x p
  OffersNone : ((s : ℕ) → offer_in x s p ≡ None) → begins_on x p ≡ None → Offering x p

offering : (x : Side) (p : Post) → Offering x p
offering A (Write from link key address len) = OffersNone (λ s. refl) refl
offering B (Write from link key address len) = OffersNone (λ s. refl) refl
offering A (Cdc from link m) = OffersNone (λ s. refl) refl
offering B (Cdc from link m) = OffersNone (λ s. refl) refl
offering A (Llc from link m) = OffersNone (λ s. refl) refl
offering B (Llc from link m) = OffersNone (λ s. refl) refl
offering A (Clc B t link m) = OffersNone (λ s. refl) refl
offering B (Clc A t link m) = OffersNone (λ s. refl) refl
offering A (Clc A t None m) = OffersNone (λ s. refl) refl
offering B (Clc B t None m) = OffersNone (λ s. refl) refl
offering A (Clc A t (Some link) (Confirm o)) = Offers t link o (λ s. refl) refl
offering A (Clc A t (Some link) (Accept o)) = OffersNone (λ s. refl) refl
offering A (Clc A t (Some link) (Proposal o)) = OffersNone (λ s. refl) refl
offering A (Clc A t (Some link) (Decline o)) = OffersNone (λ s. refl) refl
offering B (Clc B t (Some link) (Accept o)) = Offers t link o (λ s. refl) refl
offering B (Clc B t (Some link) (Confirm o)) = OffersNone (λ s. refl) refl
offering B (Clc B t (Some link) (Proposal o)) = OffersNone (λ s. refl) refl
offering B (Clc B t (Some link) (Decline o)) = OffersNone (λ s. refl) refl

-- the offers among posts, and where they begin a group
abbrev offers_among : Side → ℕ → List Post → Option Offered
offers_among x s ps = head (filter_map (offer_in x s) ps)

abbrev begins_among : Side → List Post → Option ℕ
begins_among x ps = head (filter_map (begins_on x) ps)

-- that they begin a group on this socket where one offers there first, and on none where none does
abbrev BeginsAsOffered : ℕ → Option Offered → Option ℕ → Type 0
BeginsAsOffered t None begun = begun ≡ None
BeginsAsOffered t (Some o) begun = o.offer.first ≡ true → begun ≡ Some t

module _ (x : Side) (t : ℕ) where
  skipped : (p : Post) (ps : List Post) → (s : ℕ) → offer_in x s p ≡ None → offers_among x s (p ∷ ps) ≡ offers_among x s ps
  skipped p ps s e = ap (λ (o : Option Offered). head (cons_option o (filter_map (offer_in x s) ps))) e

  begins : (ps : List Post) → ((s : ℕ) → (s == t) ≡ false → offers_among x s ps ≡ None) → BeginsAsOffered t (offers_among x t ps) (begins_among x ps)
  begins [] none = refl
  begins (p ∷ ps) none = by (offering x p) (begins ps)
    where
      by : Offering x p → (((s : ℕ) → (s == t) ≡ false → offers_among x s ps ≡ None) → BeginsAsOffered t (offers_among x t ps) (begins_among x ps)) → BeginsAsOffered t (offers_among x t (p ∷ ps)) (begins_among x (p ∷ ps))
      by (OffersNone f g) rest =
          subst (λ o. BeginsAsOffered t o (begins_among x (p ∷ ps))) (sym (skipped p ps t (f t)))
          (subst (λ b. BeginsAsOffered t (offers_among x t ps) b) (sym (ap (λ (o : Option ℕ). head (cons_option o (filter_map (begins_on x) ps))) g)) (rest (λ s d. sym (skipped p ps s (f s)) ∙ none s d)))
      by (Offers r link o f g) rest = by_socket (r == t) refl
        where
          here : offers_among x r (p ∷ ps) ≡ Some (record { link = link; offer = o })
          here = ap (λ (q : Option Offered). head (cons_option q (filter_map (offer_in x r) ps))) (f r ∙ ap (λ b. offered_if b link o) (eq-eqb r r refl))

          by_socket : (b : Bool) → (r == t) ≡ b → BeginsAsOffered t (offers_among x t (p ∷ ps)) (begins_among x (p ∷ ps))
          by_socket false d = absurd (true≢false (ap (λ (q : Option Offered). is_some q) (sym here ∙ none r d)))
          by_socket true d =
              let same : r ≡ t = eqb-true r t d in
              subst (λ q. BeginsAsOffered t q (begins_among x (p ∷ ps))) (sym (ap (λ k. offers_among x k (p ∷ ps)) (sym same) ∙ here))
              (λ first. ap (λ (q : Option ℕ). head (cons_option q (filter_map (begins_on x) ps))) (g ∙ ap (λ b. if b then Some r else None) first) ∙ ap (λ k. Some k) same)

  none-left : (a b : Option Offered) → option_or a b ≡ None → a ≡ None
  none-left None b e = refl
  none-left (Some o) b e = absurd (true≢false (sym (ap (λ (q : Option Offered). is_some q) (sym e))))

  none-right : (a b : Option Offered) → option_or a b ≡ None → b ≡ None
  none-right None b e = e
  none-right (Some o) b e = absurd (true≢false (sym (ap (λ (q : Option Offered). is_some q) (sym e))))

  -- so the side began its group there
  pub first-is : (past : List Entry) (o : Offered) → ((s : ℕ) → (s == t) ≡ false → offered x s past ≡ None) → offered x t past ≡ Some o → o.offer.first ≡ true → first_on x past ≡ t
  first-is [] o none e first = absurd (true≢false (sym (ap (λ (q : Option Offered). is_some q) e)))
  first-is (d ∷ past) o none e first =
      by (offers_among x t d.posts) (begins_among x d.posts) (begins d.posts (λ s i. none-left (offers_among x s d.posts) (offered x s past) (none s i))) e
      (first-is past o (λ s i. none-right (offers_among x s d.posts) (offered x s past) (none s i)))
    where
      by : (q : Option Offered) (b : Option ℕ) → BeginsAsOffered t q b → option_or q (offered x t past) ≡ Some o → (offered x t past ≡ Some o → o.offer.first ≡ true → first_on x past ≡ t) → unwrap_or b (first_on x past) ≡ t
      by None b g f rest = ap (λ (k : Option ℕ). unwrap_or k (first_on x past)) g ∙ rest f first
      by (Some r) b g f rest = ap (λ (k : Option ℕ). unwrap_or k (first_on x past)) (g (same r f))
        where
          same : (r : Offered) → Some r ≡ Some o → r.offer.first ≡ true
          same r f = ap (λ (k : Option Offered). unwrap_or (option_map (λ (q : Offered). q.offer.first) k) false) f ∙ first
