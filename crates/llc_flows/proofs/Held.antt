-- Chains of reasons: what a request is told by them, and what a handshake that asks for a key has passed.
use Rattle.std.proofs.Common.{◌≡◌, ◌≢◌, ◌∙◌, ℕ, ◌==◌, ◌&&◌, Bool, true, false, not, Some, None, refl, sym, ap}
use Rattle.std.specs.Prelude.{if◌then◌else◌}
use Rattle.smc_num.specs.declared.Side.TheVariants.{A, B}
use Rattle.clc_wire.specs.declared.proposal.Proposal.{Proposal}
use Rattle.clc_wire.specs.declared.offer.Offer.{Offer}
use Rattle.pipe_model.specs.declared.reply.Hold.{Hold}
use Rattle.pipe_model.specs.declared.reply.Hold.TheVariants.{FirstContact, AddLink, ConfirmRkey, DeleteRkey, OldGroup}
use Rattle.pipe_model.specs.declared.reply.Lack.TheVariants.{Raw, NoSlot}
use Rattle.pipe_model.specs.declared.reply.Reply.{Reply}
use Rattle.pipe_model.specs.declared.reply.Reply.TheVariants.{Held}
use Rattle.pipe_model.specs.declared.verdict.Lacks.{Lacks}
use Rattle.pipe_model.specs.declared.verdict.ClcStep.{ClcStep}
use Rattle.pipe_model.specs.declared.verdict.ClcStep.TheVariants.{SendAccept, SendConfirm, AskKey, Wait, Decline}
use Rattle.pipe_model.specs.Flows.{Flow, is_first_contact, is_adding, is_asked, is_deleting}
use Rattle.pipe_model.specs.Handshake.{key_step, on_proposal, on_later_accept, on_accept}
use Rattle.llc_flows.specs.Holds.{TellsFlow, confirm_hold, unless_held}

-- what a request is told by one reason
pub by_one : (a : Bool) (x : Hold) (reply : Reply) → unless_held (if a then Some x else None) reply ≡ (if a then Held x else reply)
by_one true x reply = refl
by_one false x reply = refl

-- what it is told by four
pub by_four : (a b c d : Bool) (w x y z : Hold) (reply : Reply)
    → unless_held (if a then Some w else if b then Some x else if c then Some y else if d then Some z else None) reply
    ≡ (if a then Held w else if b then Held x else if c then Held y else if d then Held z else reply)
by_four true b c d w x y z reply = refl
by_four false true c d w x y z reply = refl
by_four false false true d w x y z reply = refl
by_four false false false true w x y z reply = refl
by_four false false false false w x y z reply = refl

-- where none of four reasons holds
none_of : (a b c d : Bool) (w x y z : Hold) → a ≡ false → b ≡ false → c ≡ false → d ≡ false
    → (if a then Some w else if b then Some x else if c then Some y else if d then Some z else None) ≡ None
none_of true b c d w x y z ea eb ec ed = cc
none_of false true c d w x y z ea eb ec ed = cc
none_of false false true d w x y z ea eb ec ed = cc
none_of false false false true w x y z ea eb ec ed = cc
none_of false false false false w x y z ea eb ec ed = refl

-- a rule that asks for no key was passed
passed : (b : Bool) (x y : ClcStep) → x ≢ AskKey → (if b then x else y) ≡ AskKey → (b ≡ false) × (y ≡ AskKey)
passed true x y other e = absurd (other e)
passed false x y other e = (refl, e)

-- a rule whose else asks for no key has held
held : (b : Bool) (x y : ClcStep) → y ≢ AskKey → (if b then x else y) ≡ AskKey → x ≡ AskKey
held true x y other e = e
held false x y other e = absurd (other e)

-- first contact asks for no key
no_key_first : (raw up : Bool) (links : ℕ) → (if raw then Decline Raw else if up then Decline (NoSlot links) else SendAccept true) ≢ AskKey
no_key_first true up links = λ e. cc
no_key_first false true links = λ e. cc
no_key_first false false links = λ e. cc

-- where a key is asked for, none is, and no link is being added
asked : (l : Lacks) → key_step l ≡ AskKey → (is_asked l.key_flow ≡ false) × (l.adding ≡ false)
asked l e =
    let one = passed (is_asked l.key_flow) _ _ (λ w. cc) e in
    let two = passed l.adding _ _ (λ w. cc) one.1 in
    (one.0, two.0)

pub server_asks : (raw : Bool) (p : Proposal) (l : Lacks) (f : Flow) → TellsFlow l f → on_proposal raw p l ≡ AskKey → confirm_hold B f ≡ None
server_asks raw p l f tells e =
    let subnet = passed (not ((p.subnet == l.subnet.0) && (p.prefix == l.subnet.1))) _ _ (λ w. cc) e in
    let contact = passed l.first_contact _ _ (λ w. cc) subnet.1 in
    let deleting = passed (is_deleting l.key_flow) _ _ (λ w. cc) contact.1 in
    let free = passed (l.free == 0) _ _ (λ w. cc) deleting.1 in
    let group = passed (l.group == 0) _ _ (no_key_first raw (l.slots_up == 0) l.links) free.1 in
    let key = asked l (held (not l.rmb_ready) _ _ (λ w. cc) group.1) in
    none_of (is_first_contact f.link) (is_deleting f.key) (is_asked f.key) (is_adding f.link) FirstContact DeleteRkey ConfirmRkey AddLink
    (sym tells.0 ∙ contact.0) (ap is_deleting (sym tells.1) ∙ deleting.0) (ap is_asked (sym tells.1) ∙ key.0) (sym tells.2 ∙ key.1)

later_asks : (o : Offer) (l : Lacks) (f : Flow) → TellsFlow l f → on_later_accept o l ≡ AskKey → confirm_hold A f ≡ None
later_asks o l f tells e =
    let group = passed (not (o.psn == l.group)) _ _ (λ w. cc) e in
    let deleting = passed (is_deleting l.key_flow) _ _ (λ w. cc) group.1 in
    let free = passed (l.free == 0) _ _ (λ w. cc) deleting.1 in
    let key = asked l (held (not l.rmb_ready) _ _ (λ w. cc) free.1) in
    none_of false (is_deleting f.key) (is_asked f.key) (is_adding f.link) FirstContact DeleteRkey ConfirmRkey AddLink
    refl (ap is_deleting (sym tells.1) ∙ deleting.0) (ap is_asked (sym tells.1) ∙ key.0) (sym tells.2 ∙ key.1)

by_first : (o : Offer) (l : Lacks) (f : Flow) → TellsFlow l f → (first old : Bool)
    → (if first then (if old then Wait OldGroup else SendConfirm true) else on_later_accept o l) ≡ AskKey → confirm_hold A f ≡ None
by_first o l f tells true true e = cc
by_first o l f tells true false e = cc
by_first o l f tells false old e = later_asks o l f tells e

pub client_asks : (o : Offer) (l : Lacks) (f : Flow) → TellsFlow l f → on_accept o l ≡ AskKey → confirm_hold A f ≡ None
client_asks o l f tells e = by_first o l f tells o.first (not (l.group == 0)) e
