-- What one entry does to what a side has learnt: a fact that goes on with each single change holds after the entry.
use Rattle.std.proofs.Common.{Bool, List, None, Some, [], eqb-true, false, if◌then◌else◌, refl, subst, sym, true, ℕ, ◌==◌, ◌∷◌, ◌≡◌}
use Rattle.pipe_model.specs.declared.event.Event.TheVariants.{Clc as ClcEvent, Raw, Write as WriteEvent}
use Rattle.pipe_model.specs.declared.reply.Reply.TheVariants.{End as EndReply, Idle, Sent}
use Rattle.pipe_model.specs.Keys.{book_act, book_clc, book_step, forgets, learns, learns_message, learns_offer}
use Rattle.pipe_model.specs.declared.reply.SentKind.TheVariants.{Accept as AcceptKind, AddLink as AddLinkKind, Confirm as ConfirmKind, ConfirmLink as ConfirmLinkKind, ConfirmRkey as ConfirmRkeyKind, Decline as DeclineKind, DeleteRkey as DeleteRkeyKind, Proposal as ProposalKind, TestLink as TestLinkKind}
use Rattle.std.specs.Prelude.{Option, fold}
use Rattle.pipe_model.specs.declared.flow.FlowStep.TheVariants.{Answered, Confirmed, Live}
use Rattle.history_laws.specs.Words.{A, Abort, Act, AddKeys, AddLink, AskLink, Await, B, Bytes, Close, Complete, Completed, ConfirmLink, ConfirmRkey, Cut, Declined, DeleteLink, DeleteRkey, Deliver, Done, Dropped, Echo, Empty, Ended, Entry, Established, Event, FellBack, Finish, FlowStep, Forget, Full, Gone, GroupEnded, Grow, Heal, Held, Key, Known, Landed, Learn, LinkId, LlcMessage, Move, Moved, NameUsed, NoSocket, NotYet, Offered, Open, Opened, Over, Read, Reject, Reply, ReplyAdd, ReplyKeys, ReplyRetry, Report, Reset, Retry, SendKeys, Side, Skip, Swallow, Test, TestLink, Trim, Withdraw, Wrote, act_in, book_of, group_of, named_slot, offered, other, table_of}
use Rattle.history_laws.specs.Lists.{IsAmong}
use Rattle.link_laws.specs.KeyChanges.{GoesOnLearnt, Learns, OfAnswer, OfKeys, OfOffer, OfRequest, answer_kind, offered_key, told_by, told_keys}
use Rattle.link_laws.proofs.Keys.Entries.{fold-goes}

-- a CLC message: nothing, or the peer's offer of first contact
pub clc-goes : (x : Side) (event : Event) (reply : Reply) (past : List Entry) (book : List Key) (P : List Key → Type 0) → P book
    → ((s : ℕ) → event ≡ ClcEvent s (other x) → reply ≡ Sent (answer_kind x) → P (learns_offer (offered (other x) s past) book)) → P (book_clc x event reply past book)
clc-goes A (Open s) reply past book P p f = p
clc-goes A (Raw s at len) reply past book P p f = p
clc-goes A (WriteEvent end at len) reply past book P p f = p
clc-goes A (Read end len) reply past book P p f = p
clc-goes A (Finish end) reply past book P p f = p
clc-goes A (Close end) reply past book P p f = p
clc-goes A (Abort end) reply past book P p f = p
clc-goes A (Await end) reply past book P p f = p
clc-goes A (Deliver slot dir) reply past book P p f = p
clc-goes A (Complete slot dir) reply past book P p f = p
clc-goes A (Swallow slot dir) reply past book P p f = p
clc-goes A (Cut slot) reply past book P p f = p
clc-goes A (Heal slot) reply past book P p f = p
clc-goes A (Report y slot) reply past book P p f = p
clc-goes A (Move end) reply past book P p f = p
clc-goes A Grow reply past book P p f = p
clc-goes A (Test y slot) reply past book P p f = p
clc-goes A (Trim y) reply past book P p f = p
clc-goes A (ClcEvent s A) reply past book P p f = p
clc-goes A (ClcEvent s B) Opened past book P p f = p
clc-goes A (ClcEvent s B) NameUsed past book P p f = p
clc-goes A (ClcEvent s B) NoSocket past book P p f = p
clc-goes A (ClcEvent s B) (Wrote n) past book P p f = p
clc-goes A (ClcEvent s B) Full past book P p f = p
clc-goes A (ClcEvent s B) (Bytes from len) past book P p f = p
clc-goes A (ClcEvent s B) Empty past book P p f = p
clc-goes A (ClcEvent s B) EndReply past book P p f = p
clc-goes A (ClcEvent s B) NotYet past book P p f = p
clc-goes A (ClcEvent s B) Ended past book P p f = p
clc-goes A (ClcEvent s B) Done past book P p f = p
clc-goes A (ClcEvent s B) Idle past book P p f = p
clc-goes A (ClcEvent s B) (Reset cause) past book P p f = p
clc-goes A (ClcEvent s B) Established past book P p f = p
clc-goes A (ClcEvent s B) FellBack past book P p f = p
clc-goes A (ClcEvent s B) (Held hold) past book P p f = p
clc-goes A (ClcEvent s B) (Declined lack) past book P p f = p
clc-goes A (ClcEvent s B) (Landed at) past book P p f = p
clc-goes A (ClcEvent s B) (Completed at) past book P p f = p
clc-goes A (ClcEvent s B) (Dropped token) past book P p f = p
clc-goes A (ClcEvent s B) (Moved from to) past book P p f = p
clc-goes A (ClcEvent s B) (GroupEnded group) past book P p f = p
clc-goes A (ClcEvent s B) (Sent ProposalKind) past book P p f = p
clc-goes A (ClcEvent s B) (Sent AcceptKind) past book P p f = p
clc-goes A (ClcEvent s B) (Sent ConfirmKind) past book P p f = f s refl refl
clc-goes A (ClcEvent s B) (Sent DeclineKind) past book P p f = p
clc-goes A (ClcEvent s B) (Sent ConfirmLinkKind) past book P p f = p
clc-goes A (ClcEvent s B) (Sent AddLinkKind) past book P p f = p
clc-goes A (ClcEvent s B) (Sent ConfirmRkeyKind) past book P p f = p
clc-goes A (ClcEvent s B) (Sent DeleteRkeyKind) past book P p f = p
clc-goes A (ClcEvent s B) (Sent TestLinkKind) past book P p f = p
clc-goes B (Open s) reply past book P p f = p
clc-goes B (Raw s at len) reply past book P p f = p
clc-goes B (WriteEvent end at len) reply past book P p f = p
clc-goes B (Read end len) reply past book P p f = p
clc-goes B (Finish end) reply past book P p f = p
clc-goes B (Close end) reply past book P p f = p
clc-goes B (Abort end) reply past book P p f = p
clc-goes B (Await end) reply past book P p f = p
clc-goes B (Deliver slot dir) reply past book P p f = p
clc-goes B (Complete slot dir) reply past book P p f = p
clc-goes B (Swallow slot dir) reply past book P p f = p
clc-goes B (Cut slot) reply past book P p f = p
clc-goes B (Heal slot) reply past book P p f = p
clc-goes B (Report y slot) reply past book P p f = p
clc-goes B (Move end) reply past book P p f = p
clc-goes B Grow reply past book P p f = p
clc-goes B (Test y slot) reply past book P p f = p
clc-goes B (Trim y) reply past book P p f = p
clc-goes B (ClcEvent s B) reply past book P p f = p
clc-goes B (ClcEvent s A) Opened past book P p f = p
clc-goes B (ClcEvent s A) NameUsed past book P p f = p
clc-goes B (ClcEvent s A) NoSocket past book P p f = p
clc-goes B (ClcEvent s A) (Wrote n) past book P p f = p
clc-goes B (ClcEvent s A) Full past book P p f = p
clc-goes B (ClcEvent s A) (Bytes from len) past book P p f = p
clc-goes B (ClcEvent s A) Empty past book P p f = p
clc-goes B (ClcEvent s A) EndReply past book P p f = p
clc-goes B (ClcEvent s A) NotYet past book P p f = p
clc-goes B (ClcEvent s A) Ended past book P p f = p
clc-goes B (ClcEvent s A) Done past book P p f = p
clc-goes B (ClcEvent s A) Idle past book P p f = p
clc-goes B (ClcEvent s A) (Reset cause) past book P p f = p
clc-goes B (ClcEvent s A) Established past book P p f = p
clc-goes B (ClcEvent s A) FellBack past book P p f = p
clc-goes B (ClcEvent s A) (Held hold) past book P p f = p
clc-goes B (ClcEvent s A) (Declined lack) past book P p f = p
clc-goes B (ClcEvent s A) (Landed at) past book P p f = p
clc-goes B (ClcEvent s A) (Completed at) past book P p f = p
clc-goes B (ClcEvent s A) (Dropped token) past book P p f = p
clc-goes B (ClcEvent s A) (Moved from to) past book P p f = p
clc-goes B (ClcEvent s A) (GroupEnded group) past book P p f = p
clc-goes B (ClcEvent s A) (Sent ProposalKind) past book P p f = p
clc-goes B (ClcEvent s A) (Sent AcceptKind) past book P p f = p
clc-goes B (ClcEvent s A) (Sent ConfirmKind) past book P p f = p
clc-goes B (ClcEvent s A) (Sent DeclineKind) past book P p f = p
clc-goes B (ClcEvent s A) (Sent ConfirmLinkKind) past book P p f = f s refl refl
clc-goes B (ClcEvent s A) (Sent AddLinkKind) past book P p f = p
clc-goes B (ClcEvent s A) (Sent ConfirmRkeyKind) past book P p f = p
clc-goes B (ClcEvent s A) (Sent DeleteRkeyKind) past book P p f = p
clc-goes B (ClcEvent s A) (Sent TestLinkKind) past book P p f = p

-- learning a message is binding each key that it tells
pub message-tells : (on : LinkId) (table : List Known) (slot : ℕ) (m : LlcMessage) (book : List Key) → learns_message on table slot m book ≡ fold learns book (told_keys on table slot m book)
message-tells on table slot (ConfirmLink reply mac gid qp k user most) book = refl
message-tells on table slot (AddLink reply rejected reason mac gid qp k mtu psn) book = refl
message-tells on table slot (AddKeys reply k count keys) book = refl
message-tells on table slot (DeleteLink reply every orderly k reason) book = refl
message-tells on table slot (ConfirmRkey reply retry negative others tokens) book = refl
message-tells on table slot (TestLink reply bytes) book = refl
message-tells on table slot (DeleteRkey reply negative count mask keys) book = refl

-- what one step of the flows does to what is known: nothing, or one of four things
pub book-step-goes : (on : LinkId) (table : List Known) (m : LlcMessage) (step : FlowStep) (book : List Key) (P : List Key → Type 0) → P book
    → (step ≡ Learn → P (learns_message on table on.slot m book)) → (step ≡ AskLink → P (learns_message on table (named_slot m on.slot) m book))
    → (step ≡ ReplyKeys true → P (learns_message on table (named_slot m on.slot) m book)) → (step ≡ Forget → P (forgets on m book)) → P (book_step on table m step book)
book-step-goes on table m Skip book P p l a r f = p
book-step-goes on table m (Live reply first) book P p l a r f = p
book-step-goes on table m SendKeys book P p l a r f = p
book-step-goes on table m Over book P p l a r f = p
book-step-goes on table m AskLink book P p l a r f = a refl
book-step-goes on table m (ReplyKeys true) book P p l a r f = r refl
book-step-goes on table m (ReplyKeys false) book P p l a r f = p
book-step-goes on table m (ReplyAdd again) book P p l a r f = p
book-step-goes on table m Reject book P p l a r f = p
book-step-goes on table m Confirmed book P p l a r f = p
book-step-goes on table m Retry book P p l a r f = p
book-step-goes on table m Withdraw book P p l a r f = p
book-step-goes on table m ReplyRetry book P p l a r f = p
book-step-goes on table m Learn book P p l a r f = l refl
book-step-goes on table m Forget book P p l a r f = f refl
book-step-goes on table m (Gone report) book P p l a r f = p
book-step-goes on table m Answered book P p l a r f = p
book-step-goes on table m Echo book P p l a r f = p

-- all together
module _ (x : Side) (e : Entry) (past : List Entry) (P : List Key → Type 0) (go : GoesOnLearnt x e past P) where
  tells : (act : Act) (slot : ℕ) → ((k : Key) → IsAmong k (told_by x act slot past) → Learns x e past k) → P (learns_message act.link (table_of x past) slot act.message (book_of x past))
  tells act slot from = subst P (sym (message-tells act.link (table_of x past) slot act.message (book_of x past)))
      (fold-goes learns P (told_by x act slot past) (λ k i book had. go.learnt k (from k i) book had) (book_of x past) go.was)

  acted : P (book_act (table_of x past) (act_in x e past) (book_of x past))
  acted = by (act_in x e past) refl
    where
      by : (o : Option Act) → act_in x e past ≡ o → P (book_act (table_of x past) o (book_of x past))
      by None is = go.was
      by (Some act) is = book-step-goes act.link (table_of x past) act.message act.step (book_of x past) P go.was
          (λ d. tells act act.link.slot (λ k i. OfRequest k (record { act = act; is = is; does = d }) i))
          (λ d. tells act (named_slot act.message act.link.slot) (λ k i. OfAnswer k (record { act = act; is = is; does = d }) i))
          (λ d. tells act (named_slot act.message act.link.slot) (λ k i. OfKeys k (record { act = act; is = is; does = d }) i))
          (λ d. go.forgot (record { act = act; is = is; does = d }))

  taken : P (book_clc x e.event e.reply past (book_act (table_of x past) (act_in x e past) (book_of x past)))
  taken = clc-goes x e.event e.reply past (book_act (table_of x past) (act_in x e past) (book_of x past)) P acted (λ s event reply. by s event reply (offered (other x) s past) refl)
    where
      by : (s : ℕ) → e.event ≡ ClcEvent s (other x) → e.reply ≡ Sent (answer_kind x) → (o : Option Offered) → offered (other x) s past ≡ o → P (learns_offer o (book_act (table_of x past) (act_in x e past) (book_of x past)))
      by s event reply None q = acted
      by s event reply (Some o) q = go.learnt (offered_key o) (OfOffer o (record { s = s; event = event; reply = reply; offered = q })) (book_act (table_of x past) (act_in x e past) (book_of x past)) acted

  -- what is known after the entry
  pub book-after : P (book_of x (e ∷ past))
  book-after = by (group_of x (e ∷ past) == 0) refl
    where
      by : (b : Bool) → (group_of x (e ∷ past) == 0) ≡ b → P (if b then [] else book_clc x e.event e.reply past (book_act (table_of x past) (act_in x e past) (book_of x past)))
      by true q = go.ended (eqb-true (group_of x (e ∷ past)) 0 q)
      by false q = taken
