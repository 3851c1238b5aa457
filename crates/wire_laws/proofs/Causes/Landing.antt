-- A CDC message that lands for a connection: it is the next of its end, and nothing else happens to the connection with it.
use Rattle.std.proofs.Common.{Bool, List, [], ap, eq-eqb, eqb-true, false, if◌then◌else◌, refl, sym, true, true≢false, ℕ, ◌&&◌, ◌==◌, ◌∙◌, ◌∷◌, ◌≡◌}
use Rattle.std.specs.Prelude.{None, Option, Some, is_some, option_map}
use Rattle.pipe_model.specs.Connections.{names_cdc}
use Rattle.pipe_model.specs.Fabric.{after, lands}
use Rattle.pipe_model.specs.Replies.{told}
use Rattle.pipe_model.specs.Wires.{landing}
use Rattle.pipe_model.specs.declared.post.Post.TheVariants.{Clc, Write}
use Rattle.pipe_model.specs.declared.reply.Reply.TheVariants.{Idle}
use Rattle.pipe_model.specs.declared.sent.Sent.{Sent}
use Rattle.history_laws.specs.Words.{A, Act, B, Cdc, CdcMessage, Deliver, Dropped, Entry, Landed, LinkId, Llc, Offered, Placed, Post, PostRef, Reply, Setup, Side, act_of, deliver_told, element_size, fabric, group_on, half, head, is_cdc, is_own, landed_at, lands_told, offered, other, passes, pipe_of, post_at, record_of, reply_of, same_side, to_land, up_by}
use Rattle.history_laws.specs.Made.{IsMade, IsMadeAll}
use Rattle.history_laws.specs.Wires.{cdc_under, if_meant, message}
use Rattle.history_laws.proofs.Basics.{and-both, none-is, other-other}
use Rattle.history_laws.proofs.Items.{below}
use Rattle.link_laws.specs.Awaited.{AreOnKnown}
use Rattle.link_laws.proofs.UnderWay.{IsLanding, alive-is, landing-is}
use Rattle.wire_laws.specs.Agreement.{IsOneEnds, OwedToAgreement}
use Rattle.wire_laws.proofs.Agreement.{Holds, first-is-next, now-owed}
use Rattle.wire_laws.proofs.Writes.{holds-of}
use Rattle.wire_laws.proofs.Causes.Entries.{OfDelivery, below-none, no-act, none-up}

-- that with an entry a CDC message of a side lands for the connection of a socket, as its peer is told or as it is dropped: it is the
-- next of its end, and the entry gives the connection nothing else
pub record HasLanded (setup : Setup) (payload : List ℕ) (y : Side) (s : ℕ) (e : Entry) (past : List Entry) : Type 0 where
  pub slot : ℕ
  pub event_is : e.event ≡ Deliver slot (other y)
  pub place : PostRef
  pub link : LinkId
  pub message_is : CdcMessage
  pub post_is : post_at place past ≡ Some (Cdc (other y) link message_is)
  pub offer : Offered
  pub offered_is : offered y s past ≡ Some offer
  pub token : message_is.token ≡ offer.offer.token
  pub sent : Sent
  pub sent_is : head (to_land (half (other y) (pipe_of setup payload (group_on s past) s past))) ≡ Some sent
  pub spells : message_is ≡ message (element_size setup) message_is.token sent
  pub replies : e.reply ≡ (if is_some (record_of setup payload y message_is.token past) then Landed place else Dropped message_is.token)
  pub alone : (group : ℕ) → below group s e past ≡ []

module _ (setup : Setup) (payload : List ℕ) (e : Entry) (past : List Entry) (m : IsMadeAll setup payload (e ∷ past)) (known : AreOnKnown setup (e ∷ past)) (y : Side) (s : ℕ) where
  abbrev one : (before : ℕ) × IsMade setup payload past before e
  one = m.0

  held : Holds setup payload past
  held = holds-of setup payload past m.1 known.1

  owed : OwedToAgreement setup payload past
  owed = now-owed setup payload past held.all

  no-place : (slot : ℕ) (r : Reply) → r ≡ Idle → passes (is_own (other y) s past) (landed_at slot (other y) r past) ≡ true → ⊥
  no-place slot r i h = true≢false (sym h ∙ ap (λ q. passes (is_own (other y) s past) (landed_at slot (other y) q past)) i)

  -- what lands is at the place that the reply names, dropped or not
  at-place : (slot : ℕ) (c : Placed) → landing slot (other y) past ≡ Some c → (p : Post) → landed_at slot (other y) (lands_told setup payload y past c p) past ≡ Some c.at
  at-place slot c l (Cdc from link n) = by (is_some (record_of setup payload y n.token past))
    where
      by : (b : Bool) → landed_at slot (other y) (if b then Landed c.at else Dropped n.token) past ≡ Some c.at
      by true = refl
      by false = ap (λ o. option_map (λ (k : Placed). k.at) o) l
  at-place slot c l (Write from link key address len) = refl
  at-place slot c l (Llc from link n) = refl
  at-place slot c l (Clc from t link n) = refl

  -- what the entry does to links, where it lands a CDC message
  still : (slot : ℕ) → e.event ≡ Deliver slot (other y) → (at : PostRef) (from : Side) (link : LinkId) (n : CdcMessage) → post_at at past ≡ Some (Cdc from link n) → (b : Bool) → e.reply ≡ (if b then Landed at else Dropped n.token) → fabric (e ∷ past) ≡ fabric past
  still slot ev at from link n p b r = ap (λ v. after v e.reply e.posts past (fabric past)) ev ∙ (ap (λ q. after (Deliver slot (other y)) q e.posts past (fabric past)) r ∙ by b)
    where
      by : (c : Bool) → after (Deliver slot (other y)) (if c then Landed at else Dropped n.token) e.posts past (fabric past) ≡ fabric past
      by true = ap (λ o. lands o (other (other y)) past (fabric past)) p
      by false = refl

  acts-none : (at : PostRef) (from : Side) (link : LinkId) (n : CdcMessage) → post_at at past ≡ Some (Cdc from link n) → (b : Bool) → e.reply ≡ (if b then Landed at else Dropped n.token) → (at2 : PostRef) (act : Act) (z : Side) → e.reply ≡ Landed at2 → act_of z (post_at at2 past) past ≡ Some act → ⊥
  acts-none at from link n p true r at2 act z q a = none-is act (sym (ap (λ o. act_of z o past) (ap (λ k. post_at k past) (same at at2 (sym r ∙ q)) ∙ p)) ∙ a)
    where
      same : (k j : PostRef) → Landed k ≡ Landed j → j ≡ k
      same k j w = cc
  acts-none at from link n p false r at2 act z q a = (let w : Dropped n.token ≡ Landed at2 = sym r ∙ q in cc)

  ups-none : (slot : ℕ) → e.event ≡ Deliver slot (other y) → (z : Side) → up_by z s e.event e.reply past ≡ None
  ups-none slot ev A = ap (λ v. up_by A s v e.reply past) ev
  ups-none slot ev B = ap (λ v. up_by B s v e.reply past) ev

  -- the message that is first on the link
  cdc-case : (slot : ℕ) → e.event ≡ Deliver slot (other y) → (c : Placed) → landing slot (other y) past ≡ Some c → (o : Offered) → offered (other (other y)) s past ≡ Some o → (p : Post) → c.post ≡ p → is_cdc (other y) o.offer.token p ≡ true → e.reply ≡ lands_told setup payload y past c p → HasLanded setup payload y s e past
  cdc-case slot ev c l o f (Write from link key address len) i q r = absurd (true≢false (sym q))
  cdc-case slot ev c l o f (Llc from link n) i q r = absurd (true≢false (sym q))
  cdc-case slot ev c l o f (Clc from t link n) i q r = absurd (true≢false (sym q))
  cdc-case slot ev c l o f (Cdc from link n) i q r =
      let both = and-both (same_side (other y) from) (o.offer.token == n.token) q in
      let is : IsLanding slot (other y) past c = landing-is slot (other y) past c l in
      let alive = alive-is is.link past is.alive in
      let tok : o.offer.token ≡ n.token = eqb-true o.offer.token n.token both.1 in
      let under : cdc_under (other y) n.token c.post ≡ Some n = ap (λ p. cdc_under (other y) n.token p) i ∙ meant (same_side (other y) from) (n.token == n.token) both.0 (eq-eqb n.token n.token refl) in
      let next : IsOneEnds setup payload (other y) is.link past n = first-is-next setup payload past owed held.agree (other y) is.link (owed.again (other y) is.link (alive.1 (other y))) c is.rest is.front n under in
      let same : s ≡ next.s = owed.tokens (other (other y)) s next.s o next.offer f next.offered_is (tok ∙ next.token) in
      let side : from ≡ other y = side-is (other y) from both.0 in
      let posted : post_at c.at past ≡ Some (Cdc from link n) = is.known ∙ ap (λ p. Some p) i in
      let b : Bool = is_some (record_of setup payload y n.token past) in
      record {
        slot = slot;
        event_is = ev;
        place = c.at;
        link = link;
        message_is = n;
        post_is = posted ∙ ap (λ z. Some (Cdc z link n)) side;
        offer = o;
        offered_is = ap (λ z. offered z s past) (sym (other-other y)) ∙ f;
        token = sym tok;
        sent = next.sent;
        sent_is = ap (λ t. head (to_land (half (other y) (pipe_of setup payload (group_on t past) t past)))) same ∙ next.sent_is;
        spells = next.spells ∙ ap (λ t. message (element_size setup) t next.sent) (sym next.token);
        replies = r;
        alone = λ group. below-none group s e past (still slot ev c.at from link n posted b r) (none-up s e past (ups-none slot ev) (λ z. no-act z e past (λ at2 act k a. acts-none c.at from link n posted b r at2 act z k a)));
      }
    where
      meant : (a b : Bool) → a ≡ true → b ≡ true → if_meant (a && b) n ≡ Some n
      meant true true e f = refl
      meant true false e f = absurd (true≢false (sym f))
      meant false b e f = absurd (true≢false (sym e))

      side-is : (x z : Side) → same_side x z ≡ true → z ≡ x
      side-is A A e = refl
      side-is B B e = refl
      side-is A B e = absurd (true≢false (sym e))
      side-is B A e = absurd (true≢false (sym e))

  pub has-landed : OfDelivery (other y) s e.event e.reply past → HasLanded setup payload y s e past
  has-landed d = by (landing d.slot (other y) past) refl
    where
      told-is : e.reply ≡ deliver_told setup payload y past (landing d.slot (other y) past)
      told-is = let made = one.1 in made.reply ∙ (ap (λ v. reply_of one.0 (told setup payload past v)) d.event_is ∙ ap (λ z. deliver_told setup payload z past (landing d.slot (other y) past)) (other-other y))

      by : (o : Option Placed) → landing d.slot (other y) past ≡ o → HasLanded setup payload y s e past
      by None l = absurd (no-place d.slot e.reply (told-is ∙ ap (deliver_told setup payload y past) l) d.own)
      by (Some c) l = found (offered (other (other y)) s past) refl (sym (ap (λ o. passes (is_own (other y) s past) o) placed) ∙ d.own)
        where
          r : e.reply ≡ lands_told setup payload y past c c.post
          r = told-is ∙ ap (deliver_told setup payload y past) l

          placed : landed_at d.slot (other y) e.reply past ≡ Some c.at
          placed = ap (λ q. landed_at d.slot (other y) q past) r ∙ at-place d.slot c l c.post

          is : IsLanding d.slot (other y) past c
          is = landing-is d.slot (other y) past c l

          found : (o : Option Offered) → offered (other (other y)) s past ≡ o → passes (λ p. names_cdc (other y) p.offer.token c.at past) (offered (other (other y)) s past) ≡ true → HasLanded setup payload y s e past
          found None f h = absurd (true≢false (sym h ∙ ap (λ o. passes (λ (p : Offered). names_cdc (other y) p.offer.token c.at past) o) f))
          found (Some o) f h = cdc-case d.slot d.event_is c l o f c.post refl
              (sym (ap (λ p. passes (is_cdc (other y) o.offer.token) p) is.known) ∙ (sym (ap (λ q. passes (λ (p : Offered). names_cdc (other y) p.offer.token c.at past) q) f) ∙ h)) r
