-- What an entry is with which a side offers in first contact: the sides and their keys after it.
use Rattle.std.proofs.Common.{List, Some, ap, if◌then◌else◌, inl, inr, subst, sym, true, ℕ, ◌∙◌, ◌∷◌, ◌≡◌}
use Rattle.std.specs.Prelude.{unwrap_or}
use Rattle.pipe_model.specs.declared.post.Post.TheVariants.{Clc}
use Rattle.clc_wire.specs.declared.message.ClcMessage.TheVariants.{Accept as AcceptMessage, Confirm as ConfirmMessage}
use Rattle.pipe_model.specs.Fabric.{after}
use Rattle.pipe_model.specs.declared.event.Event.TheVariants.{Clc as ClcEvent}
use Rattle.pipe_model.specs.declared.reply.Reply.TheVariants.{Sent}
use Rattle.pipe_model.specs.declared.reply.SentKind.TheVariants.{Accept as AcceptSent, Confirm as ConfirmSent}
use Rattle.history_laws.specs.Words.{A, B, Entry, LinkId, Offer, Setup, accept_post, begins_group, confirm_post, fabric, first_link, makes, named_link, new_offer, no_link, with_peer}
use Rattle.history_laws.specs.Offers.{Accepts, Confirms, Offers, OffersAccept, OffersConfirm, OffersNone, accept_link, confirm_reply}
use Rattle.history_laws.specs.Made.{IsMadeAll}
use Rattle.history_laws.proofs.Offers.{all-offers, of-entry, states}
use Rattle.history_laws.specs.Lists.{IsAmong}
use Rattle.link_laws.specs.FabricChanges.{OffersFirst}
use Rattle.lending_laws.proofs.Ends.{none-data, none-free}

-- B offers in first contact
pub record BeginsB (setup : Setup) (payload : List ℕ) (e : Entry) (past : List Entry) (link : LinkId) (o : Offer) : Type 0 where
  pub accepts : Accepts setup payload e past
  pub first : accepts.first ≡ true
  pub link_is : link ≡ first_link setup past
  pub offer_is : o ≡ new_offer setup payload B true link past
  pub changed : fabric (e ∷ past) ≡ with_peer B (begins_group link.group) (fabric past)

-- A does in its turn
pub record BeginsA (setup : Setup) (payload : List ℕ) (e : Entry) (past : List Entry) (link : LinkId) (o : Offer) : Type 0 where
  pub confirms : Confirms setup payload e past
  pub first : confirms.first ≡ true
  pub link_is : link ≡ unwrap_or (named_link confirms.s past) no_link
  pub offer_is : o ≡ new_offer setup payload A true link past
  pub changed : fabric (e ∷ past) ≡ makes link (with_peer A (begins_group link.group) (fabric past))

module _ (setup : Setup) (payload : List ℕ) (e : Entry) (past : List Entry) (m : IsMadeAll setup payload (e ∷ past)) (link : LinkId) (o : Offer) where
  entry : Offers setup payload e past
  entry = of-entry setup payload past m.0.0 e m.0.1 (states setup payload past m.1) (all-offers setup payload past m.1)

  pub begins-b : OffersFirst B e link o → BeginsB setup payload e past link o
  begins-b it = by entry it.posted
    where
      by : Offers setup payload e past → IsAmong (Clc B it.s (Some link) (AcceptMessage o)) e.posts → BeginsB setup payload e past link o
      by (OffersNone f) i = absurd (none-free B it.s link o e.posts f i)
      by (OffersConfirm c) i = elim (subst (λ ps. IsAmong (Clc B it.s (Some link) (AcceptMessage o)) ps) c.posts_are i) [
        | inl h ↦ absurd (let w : Clc B it.s (Some link) (AcceptMessage o) ≡ Clc A c.s (Some (unwrap_or (named_link c.s past) no_link)) (ConfirmMessage (new_offer setup payload A c.first (unwrap_or (named_link c.s past) no_link) past)) = h in cc)
        | inr h ↦ absurd (none-data B it.s link o c.more c.plain h)
      ]
      by (OffersAccept a) i = elim (subst (λ ps. IsAmong (Clc B it.s (Some link) (AcceptMessage o)) ps) a.posts_are i) [
        | inl h ↦ here a h
        | inr h ↦ absurd (none-data B it.s link o a.more a.plain h)
      ]
        where
          links : (s t : ℕ) (l k : LinkId) (p q : Offer) → Clc B s (Some l) (AcceptMessage p) ≡ Clc B t (Some k) (AcceptMessage q) → l ≡ k
          links s t l k p q h = cc

          offers : (s t : ℕ) (l k : LinkId) (p q : Offer) → Clc B s (Some l) (AcceptMessage p) ≡ Clc B t (Some k) (AcceptMessage q) → p ≡ q
          offers s t l k p q h = cc

          here : (a : Accepts setup payload e past) → Clc B it.s (Some link) (AcceptMessage o) ≡ accept_post setup payload a.s a.first (accept_link setup payload a.first past) past → BeginsB setup payload e past link o
          here a h = record {
            accepts = a;
            first = first;
            link_is = link-is;
            offer_is = off ∙ (ap (λ b. new_offer setup payload B b (accept_link setup payload a.first past) past) first ∙ ap (λ l. new_offer setup payload B true l past) (sym same));
            changed = ap (λ v. after v e.reply e.posts past (fabric past)) a.event_is
                ∙ (ap (λ r. after (ClcEvent a.s A) r e.posts past (fabric past)) a.reply_is
                ∙ (ap (λ ps. after (ClcEvent a.s A) (Sent AcceptSent) ps past (fabric past)) a.posts_are
                ∙ (ap (λ b. if b then with_peer B (begins_group (accept_link setup payload a.first past).group) (fabric past) else fabric past) first
                ∙ ap (λ (l : LinkId). with_peer B (begins_group l.group) (fabric past)) (sym same))));
          }
            where
              same : link ≡ accept_link setup payload a.first past
              same = links it.s a.s link (accept_link setup payload a.first past) o _ h

              off : o ≡ new_offer setup payload B a.first (accept_link setup payload a.first past) past
              off = offers it.s a.s link (accept_link setup payload a.first past) o _ h

              first : a.first ≡ true
              first = sym (ap (λ (p : Offer). p.first) off) ∙ it.first

              link-is : link ≡ first_link setup past
              link-is = same ∙ ap (λ b. accept_link setup payload b past) first

  pub begins-a : OffersFirst A e link o → BeginsA setup payload e past link o
  begins-a it = by entry it.posted
    where
      by : Offers setup payload e past → IsAmong (Clc A it.s (Some link) (ConfirmMessage o)) e.posts → BeginsA setup payload e past link o
      by (OffersNone f) i = absurd (none-free A it.s link o e.posts f i)
      by (OffersAccept a) i = elim (subst (λ ps. IsAmong (Clc A it.s (Some link) (ConfirmMessage o)) ps) a.posts_are i) [
        | inl h ↦ absurd (let w : Clc A it.s (Some link) (ConfirmMessage o) ≡ Clc B a.s (Some (accept_link setup payload a.first past)) (AcceptMessage (new_offer setup payload B a.first (accept_link setup payload a.first past) past)) = h in cc)
        | inr h ↦ absurd (none-data A it.s link o a.more a.plain h)
      ]
      by (OffersConfirm c) i = elim (subst (λ ps. IsAmong (Clc A it.s (Some link) (ConfirmMessage o)) ps) c.posts_are i) [
        | inl h ↦ here c h
        | inr h ↦ absurd (none-data A it.s link o c.more c.plain h)
      ]
        where
          links : (s t : ℕ) (l k : LinkId) (p q : Offer) → Clc A s (Some l) (ConfirmMessage p) ≡ Clc A t (Some k) (ConfirmMessage q) → l ≡ k
          links s t l k p q h = cc

          offers : (s t : ℕ) (l k : LinkId) (p q : Offer) → Clc A s (Some l) (ConfirmMessage p) ≡ Clc A t (Some k) (ConfirmMessage q) → p ≡ q
          offers s t l k p q h = cc

          here : (c : Confirms setup payload e past) → Clc A it.s (Some link) (ConfirmMessage o) ≡ confirm_post setup payload c.s c.first (unwrap_or (named_link c.s past) no_link) past → BeginsA setup payload e past link o
          here c h = record {
            confirms = c;
            first = first;
            link_is = same;
            offer_is = off ∙ (ap (λ b. new_offer setup payload A b (unwrap_or (named_link c.s past) no_link) past) first ∙ ap (λ l. new_offer setup payload A true l past) (sym same));
            changed = ap (λ v. after v e.reply e.posts past (fabric past)) c.event_is
                ∙ (ap (λ r. after (ClcEvent c.s B) r e.posts past (fabric past)) (c.reply_is ∙ ap confirm_reply first)
                ∙ (ap (λ ps. after (ClcEvent c.s B) (Sent ConfirmSent) ps past (fabric past)) c.posts_are
                ∙ (ap (λ b. if b then makes (unwrap_or (named_link c.s past) no_link) (with_peer A (begins_group (LinkId.group (unwrap_or (named_link c.s past) no_link))) (fabric past)) else fabric past) first
                ∙ ap (λ (l : LinkId). makes l (with_peer A (begins_group l.group) (fabric past))) (sym same))));
          }
            where
              same : link ≡ unwrap_or (named_link c.s past) no_link
              same = links it.s c.s link (unwrap_or (named_link c.s past) no_link) o _ h

              off : o ≡ new_offer setup payload A c.first (unwrap_or (named_link c.s past) no_link) past
              off = offers it.s c.s link (unwrap_or (named_link c.s past) no_link) o _ h

              first : c.first ≡ true
              first = sym (ap (λ (p : Offer). p.first) off) ∙ it.first
