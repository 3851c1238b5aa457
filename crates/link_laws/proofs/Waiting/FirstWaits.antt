-- The end that comes up as a first link is confirmed was waiting for it: so what is owed with each entry is but that sockets are known.
use Rattle.pipe_model.specs.declared.flow.FlowStep.TheVariants.{Live}
use Rattle.std.proofs.Common.{Bool, List, [], ap, false, if◌then◌else◌, inl, inr, not, refl, subst, sym, true, true≢false, ℕ, ◌&&◌, ◌==◌, ◌||◌, ◌∙◌, ◌∷◌, ◌≡◌, ◌⊎◌}
use Rattle.pipe_model.specs.Flows.{LinkSent}
use Rattle.std.specs.Prelude.{None, Option, Some, option_and_then}
use Rattle.history_laws.specs.Words.{A, Abandoned, Act, AddKeys, AddLink, AddSeen, AddSent, AskLink, B, ConfirmLink, ConfirmRkey, DeleteLink, DeleteRkey, Entry, FirstContact, Flow, FlowStep, KeysSent, LinkFlow, LinkId, LinkView, LlcMessage, NoFlow, Offered, Over, Reject, ReplyAdd, SendKeys, Setup, Side, Skip, TestLink, WaitsLink, act_in, confirmed_by, end_state, fabric, flow_of, flow_step, group_of, is_first_contact, is_first_on, is_whole, llc_step, named_slot, offered, on_add_keys, on_add_keys_reply, on_add_link, on_add_link_reject, on_add_link_reply, on_confirm_link, on_confirm_link_reply, on_new_link, other, peer, same_link, stands, table_of, view_of}
use Rattle.history_laws.specs.Made.{IsMadeAll, IsMade}
use Rattle.history_laws.proofs.Basics.{and-both, link-is, none-is}
use Rattle.link_laws.specs.Linked.{AreLinked, StandsAtBoth, Under, is_link_message}
use Rattle.link_laws.specs.Joined.{HasContact}
use Rattle.link_laws.specs.Awaited.{AllWith, AreAwaited, AreOnKnown, first_up}
use Rattle.link_laws.specs.UnderWay.{HasFlows, link_kind}
use Rattle.link_laws.proofs.Waiting.Landed.{HasLanded, has-landed, landed-under}
use Rattle.link_laws.proofs.UnderWay.{GoesOn, Grows, any-goes, both-stand}
use Rattle.link_laws.proofs.Contact.{IsHarmless, harmless, kind-given, not-up}
use Rattle.link_laws.proofs.Sound.{has-group}
use Rattle.link_laws.specs.Contact.{IsJoinedFirst, IsOfferedFirst}
use Rattle.link_laws.proofs.Joined.{has-contact, pays}
use Rattle.link_laws.proofs.Waiting.Awaits.{awaited-after, awaited-first}

-- what a step that takes a message of the link flow says of first contact: only there a first link goes live
abbrev FirstIf : LinkFlow → FlowStep → Type 0
FirstIf flow (Live reply true) = is_first_contact flow ≡ true
FirstIf flow step = Unit {0}

first-if : (flow : LinkFlow) (b : Bool) (s t : FlowStep) → FirstIf flow s → FirstIf flow t → FirstIf flow (if b then s else t)
first-if flow true s t p q = p
first-if flow false s t p q = q

new-first : (flow : LinkFlow) (view : LinkView) → FirstIf flow (on_new_link view)
new-first flow view = first-if flow (not view.path_up || (view.stands_here || view.stands_there)) Reject (ReplyAdd false) tt tt

add-first : (j : ℕ) (view : LinkView) (flow : LinkFlow) → FirstIf flow (on_add_link j view flow)
add-first j view FirstContact = tt
add-first j view (AddSeen k) = first-if (AddSeen k) ((j == k) && (view.stands_here && view.stands_there)) (ReplyAdd true) (on_new_link view) tt (new-first (AddSeen k) view)
add-first j view NoFlow = new-first NoFlow view
add-first j view (AddSent k on) = new-first (AddSent k on) view
add-first j view (KeysSent k on) = new-first (KeysSent k on) view
add-first j view (LinkSent k) = new-first (LinkSent k) view
add-first j view (Abandoned on) = new-first (Abandoned on) view

link-first : (j : ℕ) (flow : LinkFlow) → FirstIf flow (on_confirm_link j flow)
link-first j FirstContact = refl
link-first j (AddSeen k) = first-if (AddSeen k) (j == k) (Live true false) Skip tt tt
link-first j NoFlow = tt
link-first j (AddSent k on) = tt
link-first j (KeysSent k on) = tt
link-first j (LinkSent k) = tt
link-first j (Abandoned on) = tt

keys-first : (j : ℕ) (flow : LinkFlow) → FirstIf flow (on_add_keys j flow)
keys-first j FirstContact = tt
keys-first j (AddSeen k) = tt
keys-first j NoFlow = tt
keys-first j (AddSent k on) = tt
keys-first j (KeysSent k on) = tt
keys-first j (LinkSent k) = tt
keys-first j (Abandoned on) = tt

link-reply-first : (flow : LinkFlow) → FirstIf flow (on_confirm_link_reply flow)
link-reply-first FirstContact = refl
link-reply-first NoFlow = tt
link-reply-first (AddSent k on) = tt
link-reply-first (KeysSent k on) = tt
link-reply-first (LinkSent k) = tt
link-reply-first (Abandoned on) = tt
link-reply-first (AddSeen k) = tt

add-reply-first : (j : ℕ) (view : LinkView) (flow : LinkFlow) → FirstIf flow (on_add_link_reply j view flow)
add-reply-first j view (AddSent k on) = first-if (AddSent k on) ((j == k) && view.stands_here) SendKeys Skip tt tt
add-reply-first j view NoFlow = tt
add-reply-first j view FirstContact = tt
add-reply-first j view (KeysSent k on) = tt
add-reply-first j view (LinkSent k) = tt
add-reply-first j view (Abandoned on) = tt
add-reply-first j view (AddSeen k) = tt

add-reject-first : (j : ℕ) (flow : LinkFlow) → FirstIf flow (on_add_link_reject j flow)
add-reject-first j (AddSent k on) = first-if (AddSent k on) (j == k) Over Skip tt tt
add-reject-first j NoFlow = tt
add-reject-first j FirstContact = tt
add-reject-first j (KeysSent k on) = tt
add-reject-first j (LinkSent k) = tt
add-reject-first j (Abandoned on) = tt
add-reject-first j (AddSeen k) = tt

keys-reply-first : (j : ℕ) (flow : LinkFlow) → FirstIf flow (on_add_keys_reply j flow)
keys-reply-first j (KeysSent k on) = first-if (KeysSent k on) (j == k) AskLink Skip tt tt
keys-reply-first j NoFlow = tt
keys-reply-first j FirstContact = tt
keys-reply-first j (AddSent k on) = tt
keys-reply-first j (LinkSent k) = tt
keys-reply-first j (Abandoned on) = tt
keys-reply-first j (AddSeen k) = tt

step-first : (x : Side) (f : Flow) (m : LlcMessage) (view : LinkView) (landed : ℕ) (whole : Bool) → is_link_message m ≡ true → FirstIf f.link (flow_step x f m view landed whole)
step-first A f (ConfirmLink false mac gid qp k user most) view landed whole is = link-first landed f.link
step-first A f (ConfirmLink true mac gid qp k user most) view landed whole is = tt
step-first A f (AddLink false rejected reason mac gid qp k mtu psn) view landed whole is = add-first k view f.link
step-first A f (AddLink true true reason mac gid qp k mtu psn) view landed whole is = tt
step-first A f (AddLink true false reason mac gid qp k mtu psn) view landed whole is = tt
step-first A f (AddKeys false k count keys) view landed whole is = keys-first k f.link
step-first A f (AddKeys true k count keys) view landed whole is = tt
step-first B f (ConfirmLink true mac gid qp k user most) view landed whole is = link-reply-first f.link
step-first B f (ConfirmLink false mac gid qp k user most) view landed whole is = tt
step-first B f (AddLink false rejected reason mac gid qp k mtu psn) view landed whole is = tt
step-first B f (AddLink true false reason mac gid qp k mtu psn) view landed whole is = add-reply-first k view f.link
step-first B f (AddLink true true reason mac gid qp k mtu psn) view landed whole is = add-reject-first k f.link
step-first B f (AddKeys true k count keys) view landed whole is = keys-reply-first k f.link
step-first B f (AddKeys false k count keys) view landed whole is = tt
step-first x f (DeleteLink reply every orderly k reason) view landed whole is = absurd (true≢false (sym is))
step-first x f (ConfirmRkey reply retry negative others tokens) view landed whole is = absurd (true≢false (sym is))
step-first x f (TestLink reply bytes) view landed whole is = absurd (true≢false (sym is))
step-first x f (DeleteRkey reply negative count mask keys) view landed whole is = absurd (true≢false (sym is))

-- the end for which a first link goes live at a side waits for it
pub first-waits : (setup : Setup) (payload : List ℕ) (past : List Entry) (before : ℕ) (e : Entry) → IsMade setup payload past before e → (was : HasContact past) → AreAwaited past (HasFlows.under was.flows) → (x : Side) (s : ℕ) (link : LinkId) → first_up x s e past ≡ Some link → end_state x s past ≡ WaitsLink
first-waits setup payload past before e made was wait x s link up = by (act_in x e past) refl up
  where
    flows : HasFlows past
    flows = was.flows

    under : Option Under
    under = flows.under

    linked : AreLinked (fabric past) under
    linked = flows.linked

    by : (o : Option Act) → act_in x e past ≡ o → option_and_then (λ act. confirmed_by (offered B s past) act.link act.step) o ≡ Some link → end_state x s past ≡ WaitsLink
    by None i c = absurd (none-is link c)
    by (Some act) i c = step act.step refl c
      where
        land : HasLanded x past act
        land = has-landed setup payload past before e made x act i

        both : StandsAtBoth act.link (fabric past)
        both = both-stand act.link past land.alive

        message : Under
        message = record { from = other x; link = act.link; message = act.message }

        of-link : (b : Bool) → is_link_message act.message ≡ b → b ≡ true
        of-link true q = refl
        of-link false q = absurd (let h : IsHarmless setup past under linked act.link x act.message (llc_step x act.link act.message past (fabric past)) = harmless setup past under linked act.link x act.message q in
            none-is link (sym (not-up (offered B s past) act.link (llc_step x act.link act.message past (fabric past)) h.quiet) ∙ (ap (λ v. confirmed_by (offered B s past) act.link v) (sym land.step_is) ∙ c)))

        is : is_link_message act.message ≡ true
        is = of-link (is_link_message act.message) refl

        under-is : under ≡ Some message
        under-is = landed-under link_kind x past act under land flows.carried is

        in-first : (reply : Bool) → act.step ≡ Live reply true → is_first_contact (flow_of x past).link ≡ true
        in-first reply d = let h = step-first x (flow_of x past) act.message (view_of x (named_slot act.message act.link.slot) past (fabric past)) act.link.slot (is_whole (peer x (fabric past))) is in at (sym land.step_is ∙ d) h
          where
            at : {v : FlowStep} → v ≡ Live reply true → FirstIf (flow_of x past).link v → is_first_contact (flow_of x past).link ≡ true
            at {v} q h = subst (λ w. FirstIf (flow_of x past).link w) q h

        group : (z : Side) → stands act.link (table_of z past) ≡ true → act.link.group ≡ group_of z past
        group z st = let h = has-group z (peer z (fabric past)) act.link (linked.own z) st in h.1

        waits : (z : Side) (o : Offered) → under ≡ Some message → offered B s past ≡ Some o → o.offer.first ≡ true → o.link ≡ act.link → is_first_contact (flow_of z past).link ≡ true → end_state z s past ≡ WaitsLink
        waits A o u i f same first = wait.at_a s o i f first (sym (group A both.at_a) ∙ ap (λ (l : LinkId). l.group) (sym same))
        waits B o u i f same first = rows (wait.at_b s o i f first (sym (group B both.at_b) ∙ ap (λ (l : LinkId). l.group) (sym same)))
          where
            rows : (end_state B s past ≡ WaitsLink) ⊎ (IsOfferedFirst s o past ⊎ ((p : Offered) × IsJoinedFirst s o p past under)) → end_state B s past ≡ WaitsLink
            rows (inl w) = w
            rows (inr (inl row)) = absurd (true≢false (sym both.at_b ∙ ap (λ t. stands act.link t) row.table))
            rows (inr (inr r)) = absurd (let row : IsJoinedFirst s o r.0 past under = r.1 in none-is message (sym row.none ∙ u))

        offer : (q : Option Offered) → offered B s past ≡ q → is_first_on act.link q ≡ true → (reply : Bool) → act.step ≡ Live reply true → end_state x s past ≡ WaitsLink
        offer None i k reply d = absurd (true≢false (sym k))
        offer (Some o) i k reply d = let h = and-both o.offer.first (same_link o.link act.link) k in waits x o under-is i h.0 (link-is o.link act.link h.1) (in-first reply d)

        named : (b : Bool) → is_first_on act.link (offered B s past) ≡ b → (if b then Some act.link else None) ≡ Some link → is_first_on act.link (offered B s past) ≡ true
        named true q k = q
        named false q k = absurd (none-is link k)

        step : (v : FlowStep) → act.step ≡ v → confirmed_by (offered B s past) act.link v ≡ Some link → end_state x s past ≡ WaitsLink
        step (Live reply true) d k = offer (offered B s past) refl (named (is_first_on act.link (offered B s past)) refl k) reply d
        step v d k = absurd (none-is link k)

-- what an entry makes stand is new
pub grows-of : (setup : Setup) (payload : List ℕ) (e : Entry) (past : List Entry) → IsMadeAll setup payload (e ∷ past) → Grows (fabric past) (fabric (e ∷ past))
grows-of setup payload e past m = by (has-contact setup payload past m.1) m.0.1
  where
    by : HasContact past → IsMade setup payload past m.0.0 e → Grows (fabric past) (fabric (e ∷ past))
    by c g = let it : GoesOn e past (HasFlows.under c.flows) = any-goes setup payload past c.flows (pays setup payload past c) m.0.0 e (record { reply = g.reply; posts = g.posts }) in it.grows

-- and its ends wait
pub all-awaited : (setup : Setup) (payload : List ℕ) (past : List Entry) (m : IsMadeAll setup payload past) → AreAwaited past (HasFlows.under (HasContact.flows (has-contact setup payload past m)))
all-awaited setup payload [] m = awaited-first _
all-awaited setup payload (e ∷ past) m = step (has-contact setup payload past m.1) (has-contact setup payload (e ∷ past) m) (all-awaited setup payload past m.1)
  where
    step : (was : HasContact past) (now : HasContact (e ∷ past)) → AreAwaited past (HasFlows.under was.flows) → AreAwaited (e ∷ past) (HasFlows.under now.flows)
    step was now wait =
        let f : HasFlows past = was.flows in
        let g : IsMade setup payload past m.0.0 e = m.0.1 in
        awaited-after setup payload e past m f.under f.linked was.contacted wait (kind-given setup payload past f.under m.0.0 e (record { reply = g.reply; posts = g.posts }) f.linked f.carried was.contacted) (HasFlows.under now.flows) now.contacted

-- what is owed with each entry
pub with-of : (setup : Setup) (payload : List ℕ) (past : List Entry) → IsMadeAll setup payload past → AreOnKnown setup past → AllWith setup past
with-of setup payload [] m known = tt
with-of setup payload (e ∷ past) m known = (record { known = known.0; first = first-waits setup payload past m.0.0 e m.0.1 (has-contact setup payload past m.1) (all-awaited setup payload past m.1) }, with-of setup payload past m.1 known.1)
