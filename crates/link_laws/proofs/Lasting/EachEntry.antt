-- What each entry is to links, whatever its event: links are as they should be before and after it, what lands is on a link that stands at
-- both sides, and the first link of a group is new.
use Rattle.std.proofs.Common.{Bool, List, None, Some, [], ap, false, if◌then◌else◌, inl, inr, refl, subst, sym, true, true≢false, ℕ, ◌∙◌, ◌∷◌, ◌≡◌}
use Rattle.std.specs.Prelude.{Option, is_some, unwrap_or}
use Rattle.pipe_model.specs.Wires.{landing}
use Rattle.pipe_model.specs.Replies.{told}
use Rattle.pipe_model.specs.declared.post.Post.TheVariants.{Clc, Write}
use Rattle.pipe_model.specs.declared.reply.Reply.TheVariants.{Idle}
use Rattle.clc_wire.specs.declared.message.ClcMessage.TheVariants.{Accept as AcceptMessage, Confirm as ConfirmMessage}
use Rattle.std.specs.Option.{option_or}
use Rattle.history_laws.specs.Words.{A, Act, B, Cdc, Deliver, Dropped, Entry, Landed, LinkId, Llc, Offer, Placed, Post, PostRef, SendConfirm, Setup, Side, act_in, act_of, confirm_post, deliver_told, expects, fabric, is_on, lands_told, llc_step, named_link, new_offer, no_link, other, post_at, record_of, reply_of}
use Rattle.history_laws.specs.Made.{IsMadeAll, IsMade}
use Rattle.history_laws.proofs.Basics.{none-is, some-is}
use Rattle.history_laws.specs.Posts.{AreData, AreFree, IsFree, is_data}
use Rattle.history_laws.specs.Lists.{IsAmong}
use Rattle.history_laws.proofs.Offers.{all-offers, of-entry, states}
use Rattle.history_laws.specs.Offers.{Confirms, Offers, OffersAccept, OffersConfirm, OffersNone, accept_link}
use Rattle.link_laws.specs.Linked.{AreLinked, StandsAtBoth, Under}
use Rattle.link_laws.proofs.UnderWay.{GoesOn, Grows, IsLanding, any-goes, both-stand, landing-is, own-message}
use Rattle.link_laws.specs.FabricChanges.{OffersFirst}
use Rattle.link_laws.specs.Owed.{CanJoin, OwedByHandshake}
use Rattle.link_laws.proofs.Fabric.{act-lands}
use Rattle.link_laws.specs.Lasting.{AllFlows}
use Rattle.link_laws.specs.UnderWay.{HasFlows}

-- what an entry is to links
pub record Entered (e : Entry) (past : List Entry) : Type 0 where
  pub under : Option Under
  pub linked : AreLinked (fabric past) under
  pub under_after : Option Under
  pub linked_after : AreLinked (fabric (e ∷ past)) under_after
  pub grows : Grows (fabric past) (fabric (e ∷ past))
  pub lands : (x : Side) (act : Act) → act_in x e past ≡ Some act → StandsAtBoth act.link (fabric past)
  pub joins : (link : LinkId) (o : Offer) → OffersFirst A e link o → CanJoin link past

-- what lands with an entry is on a link that stands at both sides
pub lands-on : (setup : Setup) (payload : List ℕ) (past : List Entry) (before : ℕ) (e : Entry) → IsMade setup payload past before e → (x : Side) (act : Act) → act_in x e past ≡ Some act → StandsAtBoth act.link (fabric past)
lands-on setup payload past before e made x act is = let a = act-lands x e.event e.reply past act is in at a.0 a.1.0 a.1.1.0 a.1.1.1.0 a.1.1.1.1
  where
    at : (slot : ℕ) → e.event ≡ Deliver slot (other x) → (p : PostRef) → act_of x (post_at p past) past ≡ Some act → e.reply ≡ Landed p → StandsAtBoth act.link (fabric past)
    at slot ev p of r = by (landing slot (other x) past) refl (sym r ∙ (made.reply ∙ ap (λ v. reply_of before (told setup payload past v)) ev))
      where
        placed : (c : Placed) (post : Post) → Landed p ≡ lands_told setup payload (other (other x)) past c post → p ≡ c.at
        placed c (Cdc from link m) q = if_so (is_some (record_of setup payload (other (other x)) m.token past)) q
          where
            if_so : (b : Bool) → Landed p ≡ (if b then Landed c.at else Dropped m.token) → p ≡ c.at
            if_so true q = cc
            if_so false q = absurd (let h : Landed p ≡ Dropped m.token = q in cc)
        placed c (Write from link key address len) q = cc
        placed c (Llc from link m) q = cc
        placed c (Clc from s link m) q = cc

        by : (o : Option Placed) → landing slot (other x) past ≡ o → Landed p ≡ deliver_told setup payload (other (other x)) past o → StandsAtBoth act.link (fabric past)
        by None l q = absurd (let h : Landed p ≡ Idle = q in cc)
        by (Some c) l q = there (landing-is slot (other x) past c l)
          where
            there : IsLanding slot (other x) past c → StandsAtBoth act.link (fabric past)
            there land = which c.post land.on (ap (λ o. act_of x o past) (sym (ap (λ k. post_at k past) (placed c c.post q) ∙ land.known)) ∙ of)
              where
                which : (post : Post) → is_on land.link (other x) post ≡ true → act_of x (Some post) past ≡ Some act → StandsAtBoth act.link (fabric past)
                which (Write from link key address len) on f = absurd (none-is act f)
                which (Cdc from link m) on f = absurd (none-is act f)
                which (Clc from s link m) on f = absurd (none-is act f)
                which (Llc from link m) on f =
                    let own = own-message land.link (other x) from link m on in
                    let same : link ≡ act.link = ap (λ (b : Act). b.link) (some-is (record { link = link; message = m; step = llc_step x link m past (fabric past) }) act f) in
                    subst (λ l. StandsAtBoth l (fabric past)) (sym own.1 ∙ same) (both-stand land.link past land.alive)

-- a Confirm among posts that offer nothing is none
pub free-among : (s : ℕ) (link : LinkId) (o : Offer) (ps : List Post) → AreFree ps → IsAmong (Clc A s (Some link) (ConfirmMessage o)) ps → ⊥
free-among s link o [] f i = i
free-among s link o (p ∷ ps) f i = elim i [ inl h ↦ subst (λ q. IsFree q) (sym h) f.0 | inr h ↦ free-among s link o ps f.1 h ]

data-among : (s : ℕ) (link : LinkId) (o : Offer) (ps : List Post) → AreData ps → IsAmong (Clc A s (Some link) (ConfirmMessage o)) ps → ⊥
data-among s link o [] f i = i
data-among s link o (p ∷ ps) f i = elim i [ inl h ↦ true≢false (sym (ap is_data h ∙ f.0)) | inr h ↦ data-among s link o ps f.1 h ]

-- A's offer of first contact is made where B waits for it
pub joins-with : (setup : Setup) (payload : List ℕ) (past : List Entry) (before : ℕ) (e : Entry) → IsMade setup payload past before e → IsMadeAll setup payload past → (under : Option Under) → OwedByHandshake setup payload past under → (link : LinkId) (o : Offer) → OffersFirst A e link o → CanJoin link past
joins-with setup payload past before e made all under owed link o it = by (of-entry setup payload past before e made (states setup payload past all) (all-offers setup payload past all)) it.posted
  where
    by : Offers setup payload e past → IsAmong (Clc A it.s (Some link) (ConfirmMessage o)) e.posts → CanJoin link past
    by (OffersNone f) i = absurd (free-among it.s link o e.posts f i)
    by (OffersAccept a) i = elim (subst (λ ps. IsAmong (Clc A it.s (Some link) (ConfirmMessage o)) ps) a.posts_are i) [
      | inl h ↦ absurd (let g : Clc A it.s (Some link) (ConfirmMessage o) ≡ Clc B a.s (Some (accept_link setup payload a.first past)) (AcceptMessage (new_offer setup payload B a.first (accept_link setup payload a.first past) past)) = h in cc)
      | inr h ↦ absurd (data-among it.s link o a.more a.plain h)
    ]
    by (OffersConfirm c) i = elim (subst (λ ps. IsAmong (Clc A it.s (Some link) (ConfirmMessage o)) ps) c.posts_are i) [
      | inl h ↦ here c h
      | inr h ↦ absurd (data-among it.s link o c.more c.plain h)
    ]
      where
        here : (c : Confirms setup payload e past) → Clc A it.s (Some link) (ConfirmMessage o) ≡ confirm_post setup payload c.s c.first (unwrap_or (named_link c.s past) no_link) past → CanJoin link past
        here c h =
            let same : link ≡ unwrap_or (named_link c.s past) no_link = links it.s c.s link (unwrap_or (named_link c.s past) no_link) o _ h in
            let off : o ≡ new_offer setup payload A c.first (unwrap_or (named_link c.s past) no_link) past = offers it.s c.s link (unwrap_or (named_link c.s past) no_link) o _ h in
            let first : c.first ≡ true = sym (ap (λ (p : Offer). p.first) off) ∙ it.first in
            subst (λ l. CanJoin l past) (sym same) (owed.joins c.s B (AcceptMessage c.offer) (record { waits = ap expects c.waits; len = c.len; front = c.front_is }) (c.step_is ∙ ap SendConfirm first))
          where
            links : (s t : ℕ) (l k : LinkId) (p q : Offer) → Clc A s (Some l) (ConfirmMessage p) ≡ Clc A t (Some k) (ConfirmMessage q) → l ≡ k
            links s t l k p q h = cc

            offers : (s t : ℕ) (l k : LinkId) (p q : Offer) → Clc A s (Some l) (ConfirmMessage p) ≡ Clc A t (Some k) (ConfirmMessage q) → p ≡ q
            offers s t l k p q h = cc

-- what any entry is to links
pub entered : (setup : Setup) (payload : List ℕ) (e : Entry) (past : List Entry) → IsMadeAll setup payload (e ∷ past) → AllFlows setup payload (e ∷ past) → Entered e past
entered setup payload e past all flows = by all.0.0 all.0.1 flows.0.0 flows.0.1
  where
    by : (before : ℕ) → IsMade setup payload past before e → (h : HasFlows past) → OwedByHandshake setup payload past h.under → Entered e past
    by before made h owed = at (any-goes setup payload past h owed before e (record { reply = made.reply; posts = made.posts }))
      where
        at : GoesOn e past h.under → Entered e past
        at g = record {
          under = h.under;
          linked = h.linked;
          under_after = option_or g.new g.left;
          linked_after = g.linked;
          grows = g.grows;
          lands = lands-on setup payload past before e made;
          joins = joins-with setup payload past before e made all.1 h.under owed;
        }
