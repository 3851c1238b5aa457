-- A loss and a landing keep what is under way of a side's key flow in step with that flow.
use Rattle.std.proofs.Common.{Bool, List, None, Some, [], ap, arith, eqb-true, false, if◌then◌else◌, inl, inr, refl, subst, sym, true, true≢false, ℕ, ◌==◌, ◌||◌, ◌∙◌, ◌∷◌, ◌≡◌, ◌≢◌, ◌≤◌, ◌⊎◌}
use Rattle.std.specs.Prelude.{Option}
use Rattle.std.specs.Option.{option_or}
use Rattle.pipe_model.specs.Flows.{lost}
use Rattle.pipe_model.specs.declared.flow.KeyPhase.TheVariants.{Asked, Free, Retry as RetryWaits}
use Rattle.pipe_model.specs.Fabric.{loses}
use Rattle.std.proofs.lemmas.Bool.{ne_eqb}
use Rattle.smc_num.specs.declared.LinkPhase.TheVariants.{Live as LiveLink}
use Rattle.history_laws.specs.Words.{Dead, Deleting, Entry, Flow, Key, KeyPhase, LinkId, Llc, LlcMessage, Peer, Post, Side, TestLink, all_dead, deleting_rmbs, ends_group, fabric, flow_of, goes_on, is_asked, is_dead, is_deleting, is_standing, key_again, keys_of, link_or_none, loss_posts, lowest_live, peer, phase_at, resends_key, set_phase, stands, table_of, without_slot, Setup}
use Rattle.history_laws.proofs.Basics.{and-both, same-self, some-is}
use Rattle.link_laws.specs.Linked.{AreFlowing, AreLinked, IsOwn, Under, phases}
use Rattle.link_laws.specs.KeyFlows.{HasKeyFlow, is_key_of, key_fits, key_kind}
use Rattle.link_laws.specs.UnderWay.{AreCarriedOf, HasFlows, kind_in}
use Rattle.link_laws.proofs.Requests.KeyUnder.{delete-again, key-again, key-lost}
use Rattle.link_laws.proofs.Requests.KeyPosts.{fits-carrier, key_part, keys-loss}
use Rattle.link_laws.proofs.Sound.{after-rises, all-none, lowest-is, none-stands, slot-of, stood, true-not-false, was-going}

abbrev either_none : Bool → Option Under
either_none b = if b then None else None

-- the LLC message of a post
abbrev pub message_of : Post → LlcMessage
message_of (Llc from link m) = m
message_of post = TestLink false []

-- a message that a side posts of its own key flow
pub own-fits : (x : Side) (l : LinkId) (m : LlcMessage) (g : Flow) → is_key_of x x m ≡ true → key_fits l.slot m g ≡ true → (w : Under) → kind_in (key_kind x) (Llc x l m ∷ []) ≡ Some w → key_fits w.link.slot w.message g ≡ true
own-fits x l m g key fits w e = subst (λ (v : Under). key_fits v.link.slot v.message g ≡ true) (by (is_key_of x x m) key e) fits
  where
    by : (b : Bool) → b ≡ true → option_or (if b then Some (record { from = x; link = l; message = m }) else None) None ≡ Some w → record { from = x; link = l; message = m } ≡ w
    by true k e = some-is _ w e
    by false k e = absurd (true≢false (sym k))

-- the request posted again, and the carrier
again-some : (x : Side) (p : Peer) (keys : List Key) (rmbs : List ℕ) (k : ℕ) (f : Flow) (low : ℕ) → LinkId.slot (link_or_none (lowest_live p.table) p.table) ≡ low → (phase : KeyPhase) → f.key ≡ phase → resends_key k f ≡ true
    → (w : Under) → kind_in (key_kind x) (key_again x p keys rmbs phase ∷ []) ≡ Some w → key_fits w.link.slot w.message (lost k low f) ≡ true
again-some x p keys rmbs k f low slot Asked is r w e = own-fits x (link_or_none (lowest_live p.table) p.table) (message_of (key_again x p keys rmbs Asked)) (lost k low f) (same-self x)
    (subst (λ s. key_fits s (message_of (key_again x p keys rmbs Asked)) (lost k low f) ≡ true) (sym slot) (key-again k low f false false false 0 [] r (ap is_asked is))) w e
again-some x p keys rmbs k f low slot Deleting is r w e = own-fits x (link_or_none (lowest_live p.table) p.table) (message_of (key_again x p keys rmbs Deleting)) (lost k low f) (same-self x)
    (subst (λ s. key_fits s (message_of (key_again x p keys rmbs Deleting)) (lost k low f) ≡ true) (sym slot) (delete-again k low f false false 0 0 [] r (ap is_deleting is))) w e
again-some x p keys rmbs k f low slot Free is r w e = let h = and-both (is_asked f.key || is_deleting f.key) (f.on == k) r in absurd (true≢false (sym h.0 ∙ ap (λ k. is_asked k || is_deleting k) is))
again-some x p keys rmbs k f low slot RetryWaits is r w e = let h = and-both (is_asked f.key || is_deleting f.key) (f.on == k) r in absurd (true≢false (sym h.0 ∙ ap (λ k. is_asked k || is_deleting k) is))

module _ (x : Side) (past : List Entry) (flows : HasFlows past) (all : HasKeyFlow x past) where
  linked : AreLinked (fabric past) flows.under
  linked = flows.linked

  carried : AreCarriedOf (key_kind x) past all.under
  carried = all.carried

  abbrev p : Peer
  p = peer x (fabric past)

  own : IsOwn x (peer x (fabric past))
  own = linked.own x

  -- where a side would post its key request again as it loses the link of a slot, on which there is none that is not dead, nothing is under way
  pub keys-again-none : (k : ℕ) → resends_key k (flow_of x past) ≡ true → ((l : LinkId) → is_dead l past ≡ false → l.slot ≡ k → ⊥) → all.under ≡ None
  keys-again-none k r gone = by all.under refl
    where
      by : (u : Option Under) → all.under ≡ u → u ≡ None
      by None is = refl
      by (Some w) is =
          let h = and-both (is_asked (flow_of x past).key || is_deleting (flow_of x past).key) ((flow_of x past).on == k) r in
          absurd (gone w.link (carried.alive w is) (sym (fits-carrier w.link.slot w.message (flow_of x past) (all.fits w is)) ∙ eqb-true (flow_of x past).on k h.1))

  -- a side loses the link of a slot
  module _ (k : ℕ) (mine : Bool) (gone : (l : LinkId) → is_dead l past ≡ false → l.slot ≡ k → ⊥) where
    -- it posts a message of its key flow only where nothing of it is under way
    pub keys-loss-free : (setup : Setup) → (kind_in (key_kind x) (loss_posts setup x k mine (loses k (peer x (fabric past))) (flow_of x past) past) ≡ None) ⊎ (all.under ≡ None)
    keys-loss-free setup = by (resends_key k (flow_of x past)) refl
      where
        flat : (b : Bool) → either_none b ≡ None
        flat true = refl
        flat false = refl

        by : (b : Bool) → resends_key k (flow_of x past) ≡ b → (kind_in (key_kind x) (loss_posts setup x k mine (loses k (peer x (fabric past))) (flow_of x past) past) ≡ None) ⊎ (all.under ≡ None)
        by false e = inl (keys-loss x x k mine (loses k (peer x (fabric past))) setup (flow_of x past) past
            ∙ (ap (λ b. if (loses k (peer x (fabric past))).group == 0 then None else kind_in (key_kind x) (if b then key_again x (loses k (peer x (fabric past))) (keys_of x past).keys (deleting_rmbs setup x past) (flow_of x past).key ∷ [] else [])) e
            ∙ flat ((loses k (peer x (fabric past))).group == 0)))
        by true e = inr (keys-again-none k e gone)

    -- what is under way after the loss, on a link that stands, fits the flow after it
    pub keys-loss-fits : (setup : Setup) (w : Under) → option_or (kind_in (key_kind x) (loss_posts setup x k mine (loses k (peer x (fabric past))) (flow_of x past) past)) all.under ≡ Some w → stands w.link (loses k (peer x (fabric past))).table ≡ true → key_fits w.link.slot w.message (loses k (peer x (fabric past))).flow ≡ true
    keys-loss-fits setup w e s = by (lowest_live (set_phase k Dead (table_of x past)) == 0) refl (ap (λ o. option_or o all.under) (sym (keys-loss x x k mine (loses k (peer x (fabric past))) setup (flow_of x past) past)) ∙ e) s
      where
        by : (b : Bool) → (lowest_live (set_phase k Dead (table_of x past)) == 0) ≡ b
            → option_or (if Peer.group (if b then ends_group (without_slot k (peer x (fabric past))) else goes_on k (without_slot k (peer x (fabric past)))) == 0 then None else kind_in (key_kind x) (key_part x x k mine (if b then ends_group (without_slot k (peer x (fabric past))) else goes_on k (without_slot k (peer x (fabric past)))) setup (flow_of x past) past)) all.under ≡ Some w
            → stands w.link (Peer.table (if b then ends_group (without_slot k (peer x (fabric past))) else goes_on k (without_slot k (peer x (fabric past))))) ≡ true
            → key_fits w.link.slot w.message (Peer.flow (if b then ends_group (without_slot k (peer x (fabric past))) else goes_on k (without_slot k (peer x (fabric past))))) ≡ true
        by true f e s = absurd (true-not-false (stands w.link (all_dead (set_phase k Dead (table_of x past)))) s (none-stands w.link (all_dead (set_phase k Dead (table_of x past))) (all-none (set_phase k Dead (table_of x past)))))
        by false f e s = again (resends_key k (flow_of x past)) refl (ap (λ b. option_or (if b then None else kind_in (key_kind x) (key_part x x k mine (goes_on k (without_slot k (peer x (fabric past)))) setup (flow_of x past) past)) all.under) (sym (ne_eqb (peer x (fabric past)).group 0 (λ z. was.0 z))) ∙ e)
          where
            was : ((peer x (fabric past)).group ≢ 0) × AreFlowing x (phases (peer x (fabric past))) (flow_of x past)
            was = was-going x k (peer x (fabric past)) own f

            low : (1 ≤ lowest_live (set_phase k Dead (table_of x past))) × (phase_at (lowest_live (set_phase k Dead (table_of x past))) (set_phase k Dead (table_of x past)) ≡ LiveLink)
            low = lowest-is 1 (set_phase k Dead (table_of x past)) (omega arith) (after-rises x k (peer x (fabric past)) own) f

            slot : LinkId.slot (link_or_none (lowest_live (set_phase k Dead (table_of x past))) (set_phase k Dead (table_of x past))) ≡ lowest_live (set_phase k Dead (table_of x past))
            slot = slot-of (lowest_live (set_phase k Dead (table_of x past))) (set_phase k Dead (table_of x past)) (ap is_standing low.1)

            again : (b : Bool) → resends_key k (flow_of x past) ≡ b
                → option_or (kind_in (key_kind x) (if b then key_again x (goes_on k (without_slot k (peer x (fabric past)))) (keys_of x past).keys (deleting_rmbs setup x past) (flow_of x past).key ∷ [] else [])) all.under ≡ Some w
                → key_fits w.link.slot w.message (lost k (lowest_live (set_phase k Dead (table_of x past))) (flow_of x past)) ≡ true
            again false r e = let st = stood k w.link (table_of x past) (after-rises x k (peer x (fabric past)) own) s in key-lost k (lowest_live (set_phase k Dead (table_of x past))) (flow_of x past) w.link.slot w.message st.0 (all.fits w e)
            again true r e = again-some x (goes_on k (without_slot k (peer x (fabric past)))) (keys_of x past).keys (deleting_rmbs setup x past) k (flow_of x past) (lowest_live (set_phase k Dead (table_of x past))) slot (flow_of x past).key refl r w
                (first (kind_in (key_kind x) (key_again x (goes_on k (without_slot k (peer x (fabric past)))) (keys_of x past).keys (deleting_rmbs setup x past) (flow_of x past).key ∷ [])) (ap (λ u. option_or (kind_in (key_kind x) (key_again x (goes_on k (without_slot k (peer x (fabric past)))) (keys_of x past).keys (deleting_rmbs setup x past) (flow_of x past).key ∷ [])) u) (sym (keys-again-none k r gone)) ∙ e))
              where
                first : (o : Option Under) → option_or o None ≡ Some w → o ≡ Some w
                first None e = e
                first (Some v) e = e
