-- What is known of an end that is up: its lending, its peer's offer, and the key under which it writes.
use Rattle.std.proofs.Common.{◌≡◌, ◌∙◌, ℕ, ◌==◌, ◌⊎◌, inl, inr, Bool, true, false, if◌then◌else◌, List, [], ◌∷◌, refl, ap, sym, true≢false}
use Rattle.std.specs.Prelude.{Option, Some, None, option_map}
use Rattle.smc_num.specs.declared.Side.{Side}
use Rattle.smc_num.specs.declared.Side.TheVariants.{A, B}
use Rattle.smc_num.specs.Names.{other}
use Rattle.smc_num.specs.Places.{rmb_at}
use Rattle.clc_wire.specs.declared.offer.Offer.{Offer}
use Rattle.pipe_model.specs.declared.setup.Setup.{Setup}
use Rattle.pipe_model.specs.declared.entry.Entry.{Entry}
use Rattle.pipe_model.specs.History.{Offered, offered}
use Rattle.pipe_model.specs.Connections.{IsUp, named_link, is_up, early_state}
use Rattle.pipe_model.specs.Lending.{Lending, lent}
use Rattle.pipe_model.specs.Keys.{keys_of, book_of}
use Rattle.world_core.specs.OneLink.{the_link, the_key, the_keys, Stage, NoLink, Begun, Made, Asking, LiveAtA, LiveAtBoth, keys_at, book_at}
use Rattle.world_core.specs.Sockets.{Socket, FirstUp, Up, up_at, offered_at, on_link, is_unoffered, first_step, suits, IsWorld}
use Rattle.world_core.specs.Managers.{end_of, heard_on, awaits_confirm, lending_on}
use Rattle.world_core.proofs.LinkFacts.{by-up}
use Rattle.world_core.proofs.QuietEvents.{by-side}

-- that the ends are those that the pipes say, and that an element is lent to each that is up
pub record KnowsEnds (setup : Setup) (payload : List ℕ) (past : List Entry) : Type 0 where
  pub up : (x : Side) (s : ℕ) → (end_of setup payload x s past).up ≡ is_up x s past
  pub link : (x : Side) (s : ℕ) → is_up x s past ≡ true → (end_of setup payload x s past).link ≡ the_link
  pub lent_up : (x : Side) (s : ℕ) → is_up x s past ≡ true → (l : Lending) × (lending_on s (lent setup payload x past) ≡ Some l)

-- an end that is up has come behind the offers of both sides
pub record IsBehind (k : Socket) (x : Side) : Type 0 where
  pub offer : Offer
  pub own : Offer
  pub theirs : offered_at k (other x) ≡ on_link offer
  pub ours : offered_at k x ≡ on_link own
  pub of_b : (offered_at k B ≡ on_link offer) ⊎ (offered_at k B ≡ on_link own)
  pub has_offer : is_unoffered k ≡ false
  pub no_first : (first_step k == 1) ≡ false
  pub no_second : (first_step k == 2) ≡ false

pub behind : (k : Socket) (x : Side) → up_at k x ≡ true → IsBehind k x
behind =
    by-up (λ k x. IsBehind k x) (λ o p. record { offer = o; own = p; theirs = refl; ours = refl; of_b = inl refl; has_offer = refl; no_first = refl; no_second = refl }) (λ o p. by-side (λ y. IsBehind (FirstUp o p) y) (record { offer = o; own = p; theirs = refl; ours = refl; of_b = inl refl; has_offer = refl; no_first = refl; no_second = refl }) (record { offer = p; own = o; theirs = refl; ours = refl; of_b = inr refl; has_offer = refl; no_first = refl; no_second = refl }))
    (λ o p. record { offer = o; own = p; theirs = refl; ours = refl; of_b = inl refl; has_offer = refl; no_first = refl; no_second = refl }) (λ o p. by-side (λ y. IsBehind (Up o p) y) (record { offer = o; own = p; theirs = refl; ours = refl; of_b = inl refl; has_offer = refl; no_first = refl; no_second = refl }) (record { offer = p; own = o; theirs = refl; ours = refl; of_b = inr refl; has_offer = refl; no_first = refl; no_second = refl }))

-- both sides know the keys then
record AreKeyed (x : Side) (stage : Stage) : Type 0 where
  pub keys : keys_at (other x) stage ≡ the_keys (other x)
  pub book : book_at x stage ≡ the_key (other x) ∷ []

never : (c a b : Bool) → a ≡ false → b ≡ false → (if c then a else b) ≡ true → ⊥
never true a b e f t = true≢false (sym t ∙ e)
never false a b e f t = true≢false (sym t ∙ f)

keyed : (stage : Stage) (s : ℕ) (k : Socket) (x : Side) → IsBehind k x → up_at k x ≡ true → suits stage s k ≡ true → AreKeyed x stage
keyed NoLink s k x i u e = absurd (true≢false (sym e ∙ i.has_offer))
keyed (Begun t) s k x i u e = absurd (never (s == t) (first_step k == 1) (is_unoffered k) i.no_first i.has_offer e)
keyed (Made t) s k x i u e = absurd (never (s == t) (first_step k == 2) (is_unoffered k) i.no_second i.has_offer e)
keyed (Asking t qp) s k A i u e = record { keys = refl; book = refl }
keyed (Asking t qp) s k B i u e = record { keys = refl; book = refl }
keyed (LiveAtA t qp) s k A i u e = record { keys = refl; book = refl }
keyed (LiveAtA t qp) s k B i u e = record { keys = refl; book = refl }
keyed (LiveAtBoth t) s k A i u e = record { keys = refl; book = refl }
keyed (LiveAtBoth t) s k B i u e = record { keys = refl; book = refl }

-- what is known of an end that is up
pub record UpFacts (setup : Setup) (payload : List ℕ) (x : Side) (s : ℕ) (past : List Entry) : Type 0 where
  pub offer : Offer
  pub theirs : offered (other x) s past ≡ on_link offer
  pub named : named_link s past ≡ Some the_link
  pub heard : heard_on x s past ≡ Some offer
  pub rmb : rmb_at offer.address ≡ 1
  pub lending : Lending
  pub lent_is : lending_on s (lent setup payload x past) ≡ Some lending
  pub keys : keys_of (other x) past ≡ the_keys (other x)
  pub book : book_of x past ≡ the_key (other x) ∷ []

pub up-facts : (setup : Setup) (payload : List ℕ) (stage : Stage) (x : Side) (s : ℕ) (past : List Entry) → IsWorld setup stage past → KnowsEnds setup payload past → is_up x s past ≡ true → UpFacts setup payload x s past
up-facts setup payload stage x s past w knows u =
    let h = w.sockets s in
    let at = h.stands in
    let up : up_at h.at x ≡ true = sym (at.up x) ∙ u in
    let i = behind h.at x up in
    let k = keyed stage s h.at x i up h.suits_is in
    let link = w.link in
    let given : Option Offered = on_link i.offer in
    let mine = at.offers (other x) (record { link = the_link; offer = i.offer }) i.theirs in
    let l = knows.lent_up x s u in
    record {
      offer = i.offer;
      theirs = at.offer (other x) ∙ i.theirs;
      named = ap (λ o. option_map (λ (p : Offered). p.link) o) (at.offer B) ∙ on_the_link (offered_at h.at B) i.offer i.own i.of_b;
      heard = ap (λ b. if awaits_confirm (if b then IsUp else early_state x s past) then None else option_map (λ (p : Offered). p.offer) (offered (other x) s past)) u
          ∙ ap (λ o. option_map (λ (p : Offered). p.offer) o) (at.offer (other x) ∙ i.theirs);
      rmb = mine.rmb;
      lending = l.0;
      lent_is = l.1;
      keys = link.keys (other x) ∙ k.keys;
      book = link.book x ∙ k.book;
    }
  where
    on_the_link : (o : Option Offered) (p q : Offer) → (o ≡ on_link p) ⊎ (o ≡ on_link q) → option_map (λ (r : Offered). r.link) o ≡ Some the_link
    on_the_link o p q (inl e) = ap (λ o. option_map (λ (r : Offered). r.link) o) e
    on_the_link o p q (inr e) = ap (λ o. option_map (λ (r : Offered). r.link) o) e
