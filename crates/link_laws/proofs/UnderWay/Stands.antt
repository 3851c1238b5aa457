-- What lands comes from the other side on a link that stands at both, and is what is under way, where it is of the link flow.
use Rattle.std.proofs.Common.{Bool, List, [], ap, false, if◌then◌else◌, refl, subst, sym, true, ℕ, ◌||◌, ◌∙◌, ◌∷◌, ◌≡◌}
use Rattle.std.specs.Prelude.{None, Option, Some, option_and_then}
use Rattle.pipe_model.specs.Wires.{is_reported, landing}
use Rattle.history_laws.specs.Words.{A, B, Entry, LinkId, Llc, LlcMessage, Placed, Side, fabric, head, is_cut, is_dead, is_on, landing_on, latest, post_at, same_link, same_side, stands, table_of, unlanded}
use Rattle.history_laws.proofs.Basics.{and-both, link-is, none-is, not-false, or-none, same-is, some-is}
use Rattle.link_laws.specs.Linked.{StandsAtBoth, Under, is_link_message}
use Rattle.link_laws.specs.UnderWay.{AreCarriedOf, kind_messages, kind_of, link_kind}
use Rattle.link_laws.proofs.UnderWay.OwnWires.{AreOn, own-posts}
use Rattle.link_laws.proofs.UnderWay.Places.{first-waiting-in}
use Rattle.link_laws.proofs.UnderWay.Carried.{landed-is}

-- what is known of a post that would land
pub record LandsStanding (dir : Side) (past : List Entry) (under : Option Under) (c : Placed) : Type 0 where
  pub at : post_at c.at past ≡ Some c.post
  pub both : (from : Side) (link : LinkId) (m : LlcMessage) → c.post ≡ Llc from link m → StandsAtBoth link (fabric past)
  pub under_is : (from : Side) (link : LinkId) (m : LlcMessage) → c.post ≡ Llc from link m → is_link_message m ≡ true → under ≡ Some (record { from = dir; link = link; message = m })

-- what lands is at its place; an LLC message comes on a link that stands at both sides, and is what is under way, where it is of the link flow
pub landing-stands : (slot : ℕ) (dir : Side) (past : List Entry) (under : Option Under) (c : Placed) → AreCarriedOf link_kind past under → landing slot dir past ≡ Some c → LandsStanding dir past under c
landing-stands slot dir past under c carried e = by (latest slot past) e
  where
    on : (l : LinkId) (cs : List Placed) → is_dead l past ≡ false → unlanded l dir past ≡ cs → head cs ≡ Some c → LandsStanding dir past under c
    on l [] dead is h = absurd (none-is c h)
    on l (d ∷ cs) dead is h =
        let here : unlanded l dir past ≡ c ∷ cs = is ∙ ap (λ d. d ∷ cs) (some-is d c h) in
        let own : AreOn l dir (c ∷ cs) = subst (λ cs. AreOn l dir cs) here (own-posts l dir past) in
        record {
          at = first-waiting-in l dir past c (ap head here);
          both = λ from link m p. stand link (of-link own.0 from link m p).1;
          under_is = λ from link m p k. taken from link m p k here (of-link own.0 from link m p);
        }
      where
        of-link : is_on l dir c.post ≡ true → (from : Side) (link : LinkId) (m : LlcMessage) → c.post ≡ Llc from link m → (from ≡ dir) × (link ≡ l)
        of-link o from link m p = let h = and-both (same_side dir from) (same_link l link) (sym (ap (is_on l dir) p) ∙ o) in (sym (same-is dir from h.0), sym (link-is l link h.1))

        stand : (link : LinkId) → link ≡ l → StandsAtBoth link (fabric past)
        stand link q =
            let a = or-none (is_cut l past) (is_reported A l past || is_reported B l past) dead in
            let b = or-none (is_reported A l past) (is_reported B l past) a.1 in
            subst (λ k. StandsAtBoth k (fabric past)) (sym q) (record { at_a = not-false (stands l (table_of A past)) b.0; at_b = not-false (stands l (table_of B past)) b.1 })

        taken : (from : Side) (link : LinkId) (m : LlcMessage) → c.post ≡ Llc from link m → is_link_message m ≡ true → unlanded l dir past ≡ c ∷ cs → (from ≡ dir) × (link ≡ l) → under ≡ Some (record { from = dir; link = link; message = m })
        taken from link m p k here f =
            let v : kind_of link_kind c.post ≡ Some (record { from = dir; link = link; message = m }) = ap (λ q. kind_of link_kind q) p ∙ ap (λ b. if b then Some (record { from = from; link = link; message = m }) else None) k ∙ ap (λ x. Some (record { from = x; link = link; message = m })) f.0 in
            let h = landed-is link_kind l dir under c cs (record { from = dir; link = link; message = m }) v refl f.1 (ap (λ ds. kind_messages link_kind ds) (sym here) ∙ carried.carried l dir dead) in h.0

    at-link : (l : LinkId) (b : Bool) → is_dead l past ≡ b → (if b then None else head (unlanded l dir past)) ≡ Some c → LandsStanding dir past under c
    at-link l true dead h = absurd (none-is c h)
    at-link l false dead h = on l (unlanded l dir past) dead refl h

    by : (o : Option LinkId) → option_and_then (λ link. landing_on link dir past) o ≡ Some c → LandsStanding dir past under c
    by None h = absurd (none-is c h)
    by (Some l) h = at-link l (is_dead l past) refl h
