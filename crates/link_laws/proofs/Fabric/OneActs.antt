-- A message lands at one side alone with an entry: no side learns while its peer takes an answer.
use Rattle.std.proofs.Common.{List, None, Some, ap, refl, subst, sym, true, ℕ, ◌∙◌, ◌∷◌, ◌≡◌}
use Rattle.pipe_model.specs.declared.event.Event.TheVariants.{Clc as ClcEvent, Raw, Write as WriteEvent}
use Rattle.pipe_model.specs.declared.reply.Reply.TheVariants.{End as EndReply, Idle, Sent}
use Rattle.std.specs.Prelude.{Option}
use Rattle.pipe_model.specs.declared.post.Post.TheVariants.{Clc, Write}
use Rattle.pipe_model.specs.Fabric.{after, does, lands}
use Rattle.pipe_model.specs.declared.flow.FlowStep.TheVariants.{Confirmed}
use Rattle.history_laws.specs.Words.{A, Abort, Act, AskLink, Await, B, Bytes, Cdc, Close, Complete, Completed, Cut, Declined, Deliver, Done, Dropped, Empty, Ended, Entry, Established, Event, FellBack, Finish, FlowStep, Full, GroupEnded, Grow, Heal, Held, Key, Landed, Learn, Llc, Move, Moved, NameUsed, NoSocket, NotYet, Open, Opened, Post, PostRef, Read, Reply, ReplyKeys, Report, Reset, Side, Swallow, Test, Trim, Wrote, act_by, act_in, act_of, fabric, flow_of, is_whole, llc_step, named_slot, other, peer, post_at, table_of, view_of}
use Rattle.history_laws.proofs.Basics.{none-is}
use Rattle.link_laws.specs.FabricChanges.{Takes}
use Rattle.link_laws.specs.KeyChanges.{Learns, OfAnswer, OfKeys, OfOffer, OfRequest}
use Rattle.link_laws.proofs.Fabric.Steps.{StepsKey, is_rkey, steps-key}

-- an act is a landing from the other side, of a post that stands in the history
pub act-lands : (x : Side) (event : Event) (reply : Reply) (past : List Entry) (act : Act) → act_by x event reply past ≡ Some act → (slot : ℕ) × ((event ≡ Deliver slot (other x)) × ((at : PostRef) × ((act_of x (post_at at past) past ≡ Some act) × (reply ≡ Landed at))))
act-lands A (Open s) reply past act is = absurd (none-is act is)
act-lands A (Raw s at len) reply past act is = absurd (none-is act is)
act-lands A (WriteEvent end at len) reply past act is = absurd (none-is act is)
act-lands A (Read end len) reply past act is = absurd (none-is act is)
act-lands A (Finish end) reply past act is = absurd (none-is act is)
act-lands A (Close end) reply past act is = absurd (none-is act is)
act-lands A (Abort end) reply past act is = absurd (none-is act is)
act-lands A (Await end) reply past act is = absurd (none-is act is)
act-lands A (ClcEvent s d) reply past act is = absurd (none-is act is)
act-lands A (Complete slot dir) reply past act is = absurd (none-is act is)
act-lands A (Swallow slot dir) reply past act is = absurd (none-is act is)
act-lands A (Cut k) reply past act is = absurd (none-is act is)
act-lands A (Heal k) reply past act is = absurd (none-is act is)
act-lands A (Report y k) reply past act is = absurd (none-is act is)
act-lands A (Move end) reply past act is = absurd (none-is act is)
act-lands A Grow reply past act is = absurd (none-is act is)
act-lands A (Test y k) reply past act is = absurd (none-is act is)
act-lands A (Trim y) reply past act is = absurd (none-is act is)
act-lands A (Deliver slot A) reply past act is = absurd (none-is act is)
act-lands A (Deliver slot B) Opened past act is = absurd (none-is act is)
act-lands A (Deliver slot B) NameUsed past act is = absurd (none-is act is)
act-lands A (Deliver slot B) NoSocket past act is = absurd (none-is act is)
act-lands A (Deliver slot B) (Wrote n) past act is = absurd (none-is act is)
act-lands A (Deliver slot B) Full past act is = absurd (none-is act is)
act-lands A (Deliver slot B) (Bytes from len) past act is = absurd (none-is act is)
act-lands A (Deliver slot B) Empty past act is = absurd (none-is act is)
act-lands A (Deliver slot B) EndReply past act is = absurd (none-is act is)
act-lands A (Deliver slot B) NotYet past act is = absurd (none-is act is)
act-lands A (Deliver slot B) Ended past act is = absurd (none-is act is)
act-lands A (Deliver slot B) Done past act is = absurd (none-is act is)
act-lands A (Deliver slot B) Idle past act is = absurd (none-is act is)
act-lands A (Deliver slot B) (Reset cause) past act is = absurd (none-is act is)
act-lands A (Deliver slot B) Established past act is = absurd (none-is act is)
act-lands A (Deliver slot B) FellBack past act is = absurd (none-is act is)
act-lands A (Deliver slot B) (Held hold) past act is = absurd (none-is act is)
act-lands A (Deliver slot B) (Sent kind) past act is = absurd (none-is act is)
act-lands A (Deliver slot B) (Declined lack) past act is = absurd (none-is act is)
act-lands A (Deliver slot B) (Completed at) past act is = absurd (none-is act is)
act-lands A (Deliver slot B) (Dropped token) past act is = absurd (none-is act is)
act-lands A (Deliver slot B) (Moved from to) past act is = absurd (none-is act is)
act-lands A (Deliver slot B) (GroupEnded group) past act is = absurd (none-is act is)
act-lands A (Deliver slot B) (Landed at) past act is = (slot, (refl, (at, (is, refl))))
act-lands B (Open s) reply past act is = absurd (none-is act is)
act-lands B (Raw s at len) reply past act is = absurd (none-is act is)
act-lands B (WriteEvent end at len) reply past act is = absurd (none-is act is)
act-lands B (Read end len) reply past act is = absurd (none-is act is)
act-lands B (Finish end) reply past act is = absurd (none-is act is)
act-lands B (Close end) reply past act is = absurd (none-is act is)
act-lands B (Abort end) reply past act is = absurd (none-is act is)
act-lands B (Await end) reply past act is = absurd (none-is act is)
act-lands B (ClcEvent s d) reply past act is = absurd (none-is act is)
act-lands B (Complete slot dir) reply past act is = absurd (none-is act is)
act-lands B (Swallow slot dir) reply past act is = absurd (none-is act is)
act-lands B (Cut k) reply past act is = absurd (none-is act is)
act-lands B (Heal k) reply past act is = absurd (none-is act is)
act-lands B (Report y k) reply past act is = absurd (none-is act is)
act-lands B (Move end) reply past act is = absurd (none-is act is)
act-lands B Grow reply past act is = absurd (none-is act is)
act-lands B (Test y k) reply past act is = absurd (none-is act is)
act-lands B (Trim y) reply past act is = absurd (none-is act is)
act-lands B (Deliver slot B) reply past act is = absurd (none-is act is)
act-lands B (Deliver slot A) Opened past act is = absurd (none-is act is)
act-lands B (Deliver slot A) NameUsed past act is = absurd (none-is act is)
act-lands B (Deliver slot A) NoSocket past act is = absurd (none-is act is)
act-lands B (Deliver slot A) (Wrote n) past act is = absurd (none-is act is)
act-lands B (Deliver slot A) Full past act is = absurd (none-is act is)
act-lands B (Deliver slot A) (Bytes from len) past act is = absurd (none-is act is)
act-lands B (Deliver slot A) Empty past act is = absurd (none-is act is)
act-lands B (Deliver slot A) EndReply past act is = absurd (none-is act is)
act-lands B (Deliver slot A) NotYet past act is = absurd (none-is act is)
act-lands B (Deliver slot A) Ended past act is = absurd (none-is act is)
act-lands B (Deliver slot A) Done past act is = absurd (none-is act is)
act-lands B (Deliver slot A) Idle past act is = absurd (none-is act is)
act-lands B (Deliver slot A) (Reset cause) past act is = absurd (none-is act is)
act-lands B (Deliver slot A) Established past act is = absurd (none-is act is)
act-lands B (Deliver slot A) FellBack past act is = absurd (none-is act is)
act-lands B (Deliver slot A) (Held hold) past act is = absurd (none-is act is)
act-lands B (Deliver slot A) (Sent kind) past act is = absurd (none-is act is)
act-lands B (Deliver slot A) (Declined lack) past act is = absurd (none-is act is)
act-lands B (Deliver slot A) (Completed at) past act is = absurd (none-is act is)
act-lands B (Deliver slot A) (Dropped token) past act is = absurd (none-is act is)
act-lands B (Deliver slot A) (Moved from to) past act is = absurd (none-is act is)
act-lands B (Deliver slot A) (GroupEnded group) past act is = absurd (none-is act is)
act-lands B (Deliver slot A) (Landed at) past act is = (slot, (refl, (at, (is, refl))))

-- not at both sides
pub one-acts : (x : Side) (e : Entry) (past : List Entry) (step other_step : FlowStep) → Takes x e past step → Takes (other x) e past other_step → ⊥
one-acts x e past step other_step t u = let a = act-lands x e.event e.reply past t.act t.is in let b = act-lands (other x) e.event e.reply past u.act u.is in by x (a.0, a.1.0) (b.0, b.1.0)
  where
    by : (x : Side) → (slot : ℕ) × (e.event ≡ Deliver slot (other x)) → (slot : ℕ) × (e.event ≡ Deliver slot (other (other x))) → ⊥
    by A (k, p) (j, q) = no_both k j (sym p ∙ q)
      where
        no_both : (k j : ℕ) → Deliver k B ≡ Deliver j A → ⊥
        no_both k j r = cc
    by B (k, p) (j, q) = no_both k j (sym p ∙ q)
      where
        no_both : (k j : ℕ) → Deliver k A ≡ Deliver j B → ⊥
        no_both k j r = cc

-- the peer of a side that takes a message learns nothing
pub one-learns : (x : Side) (e : Entry) (past : List Entry) (step : FlowStep) → Takes x e past step → (k : Key) → Learns (other x) e past k → ⊥
one-learns x e past step t _ (OfOffer o it) = let a = act-lands x e.event e.reply past t.act t.is in no_clc (a.0, a.1.0)
  where
    no_clc : (slot : ℕ) × (e.event ≡ Deliver slot (other x)) → ⊥
    no_clc (slot, p) = apart slot it.s (other x) (other (other x)) (sym p ∙ it.event)
      where
        apart : (k s : ℕ) (y z : Side) → Deliver k y ≡ ClcEvent s z → ⊥
        apart k s y z r = cc
one-learns x e past step t _ (OfRequest k u i) = one-acts x e past step Learn t u
one-learns x e past step t _ (OfAnswer k u i) = one-acts x e past step AskLink t u
one-learns x e past step t _ (OfKeys k u i) = one-acts x e past step (ReplyKeys true) t u

-- one act has one step
pub one-step : (x : Side) (e : Entry) (past : List Entry) (step next : FlowStep) → Takes x e past step → Takes x e past next → step ≡ next
one-step x e past step next t u = sym t.does ∙ (ap (λ (a : Act). a.step) (some-is t.act u.act (sym t.is ∙ u.is)) ∙ u.does)
  where
    some-is : (a b : Act) → Some a ≡ Some b → a ≡ b
    some-is a b e = cc

-- the step of an act is that of the flows
pub act-step : (x : Side) (e : Entry) (past : List Entry) (act : Act) → act_in x e past ≡ Some act → act.step ≡ llc_step x act.link act.message past (fabric past)
act-step x e past act is = let a = act-lands x e.event e.reply past act is in by (post_at a.1.1.0 past) a.1.1.1.0
  where
    some_is : (a b : Act) → Some a ≡ Some b → a ≡ b
    some_is a b e = cc

    by : (o : Option Post) → act_of x o past ≡ Some act → act.step ≡ llc_step x act.link act.message past (fabric past)
    by None q = absurd (none-is act q)
    by (Some (Write from link key address len)) q = absurd (none-is act q)
    by (Some (Cdc from link m)) q = absurd (none-is act q)
    by (Some (Clc from s link m)) q = absurd (none-is act q)
    by (Some (Llc from link m)) q = subst (λ (b : Act). b.step ≡ llc_step x b.link b.message past (fabric past)) (some_is (record { link = link; message = m; step = llc_step x link m past (fabric past) }) act q) refl

-- what a step says of the key flow
pub taken-key : (x : Side) (e : Entry) (past : List Entry) (step : FlowStep) → (t : Takes x e past step) → StepsKey (is_rkey t.act.message) (flow_of x past).key (is_whole (peer x (fabric past))) step
taken-key x e past step t = subst (λ s. StepsKey (is_rkey t.act.message) (flow_of x past).key (is_whole (peer x (fabric past))) s) (sym (act-step x e past t.act t.is) ∙ t.does) (steps-key x (flow_of x past) t.act.message (view_of x (named_slot t.act.message t.act.link.slot) past (fabric past)) t.act.link.slot (is_whole (peer x (fabric past))))

-- what an act does to the fabric is all that the entry does to it
pub fabric-taken : (x : Side) (e : Entry) (past : List Entry) (act : Act) → act_in x e past ≡ Some act → fabric (e ∷ past) ≡ does x act.link act.message act.step (fabric past)
fabric-taken x e past act is =
    let a = act-lands x e.event e.reply past act is in
    ap (λ ev. after ev e.reply e.posts past (fabric past)) a.1.0 ∙ (ap (λ r. after (Deliver a.0 (other x)) r e.posts past (fabric past)) a.1.1.1.1 ∙ by x (post_at a.1.1.0 past) a.1.1.1.0)
  where
    some_is : (a b : Act) → Some a ≡ Some b → a ≡ b
    some_is a b e = cc

    by : (z : Side) (o : Option Post) → act_of z o past ≡ Some act → lands o (other (other z)) past (fabric past) ≡ does z act.link act.message act.step (fabric past)
    by z None q = absurd (none-is act q)
    by z (Some (Write from link key address len)) q = absurd (none-is act q)
    by z (Some (Cdc from link m)) q = absurd (none-is act q)
    by z (Some (Clc from s link m)) q = absurd (none-is act q)
    by A (Some (Llc from link m)) q = ap (λ (b : Act). does A b.link b.message b.step (fabric past)) (some_is (record { link = link; message = m; step = llc_step A link m past (fabric past) }) act q)
    by B (Some (Llc from link m)) q = ap (λ (b : Act). does B b.link b.message b.step (fabric past)) (some_is (record { link = link; message = m; step = llc_step B link m past (fabric past) }) act q)

-- an answer that confirms changes no table
pub table-confirmed : (x : Side) (e : Entry) (past : List Entry) → Takes x e past Confirmed → table_of x (e ∷ past) ≡ table_of x past
table-confirmed x e past t = ap (λ f. (peer x f).table) (fabric-taken x e past t.act t.is ∙ ap (λ s. does x t.act.link t.act.message s (fabric past)) t.does) ∙ by x
  where
    by : (z : Side) → (peer z (does z t.act.link t.act.message Confirmed (fabric past))).table ≡ (peer z (fabric past)).table
    by A = refl
    by B = refl
