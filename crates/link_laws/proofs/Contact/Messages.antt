-- What an event that is about the next CLC message does to the sockets: to the one, and to the others.
use Rattle.std.proofs.Common.{Bool, List, None, Some, [], ap, drop, eq-eqb, false, if◌then◌else◌, refl, true, ℕ, ◌&&◌, ◌++◌, ◌==◌, ◌||◌, ◌∙◌, ◌∷◌, ◌≡◌}
use Rattle.pipe_model.specs.declared.event.Event.TheVariants.{Clc}
use Rattle.pipe_model.specs.declared.reply.Reply.TheVariants.{End, Idle, Sent}
use Rattle.std.specs.Prelude.{Option, filter_map, is_some, option_and_then}
use Rattle.pipe_model.specs.declared.post.Post.TheVariants.{Clc as ClcPost}
use Rattle.clc_wire.specs.declared.message.ClcMessage.TheVariants.{Accept as AcceptMessage, Confirm as ConfirmMessage, Decline as DeclineMessage, Proposal as ProposalMessage}
use Rattle.std.specs.Option.{option_or}
use Rattle.history_laws.specs.Words.{A, Act, B, Bytes, ClcMessage, Completed, Declined, Done, Dropped, Empty, EndState, Ended, Entry, Established, FellBack, Full, GroupEnded, Held, Landed, LinkId, Moved, NameUsed, NoSocket, NotYet, Offered, Opened, Post, Reply, Reset, Side, Wrote, act_by, act_in, after_clc, after_event, after_loss, clc_in, confirmed_by, early_state, group_on, is_up, loses_group_with, named_link, offer_in, offered, offered_if, other, same_side, takes_clc, takes_message, untaken, up_by}
use Rattle.history_laws.proofs.Posts.{AreWired, offers-nothing, says-nothing}
use Rattle.history_laws.proofs.Basics.{and-false}
use Rattle.link_laws.specs.Linked.{Under}
use Rattle.link_laws.proofs.Contact.Changes.{IsSame}
use Rattle.link_laws.proofs.Contact.Elsewhere.{append-none, same-by}

-- no end of another socket comes up
up-beside : (past : List Entry) (t s : ℕ) → (t == s) ≡ false → (x dir : Side) (reply : Reply) → up_by x t (Clc s dir) reply past ≡ None
up-beside past t s ne A A reply = refl
up-beside past t s ne B B reply = refl
up-beside past t s ne A B Established = ap (λ b. if b then named_link t past else None) ne
up-beside past t s ne B A Established = ap (λ b. if b then named_link t past else None) ne
up-beside past t s ne A B Opened = refl
up-beside past t s ne A B NameUsed = refl
up-beside past t s ne A B NoSocket = refl
up-beside past t s ne A B (Wrote n) = refl
up-beside past t s ne A B Full = refl
up-beside past t s ne A B (Bytes at n) = refl
up-beside past t s ne A B Empty = refl
up-beside past t s ne A B End = refl
up-beside past t s ne A B NotYet = refl
up-beside past t s ne A B Ended = refl
up-beside past t s ne A B Done = refl
up-beside past t s ne A B Idle = refl
up-beside past t s ne A B (Reset c) = refl
up-beside past t s ne A B FellBack = refl
up-beside past t s ne A B (Held h) = refl
up-beside past t s ne A B (Sent k) = refl
up-beside past t s ne A B (Declined l) = refl
up-beside past t s ne A B (Landed at) = refl
up-beside past t s ne A B (Completed at) = refl
up-beside past t s ne A B (Dropped token) = refl
up-beside past t s ne A B (Moved from to) = refl
up-beside past t s ne A B (GroupEnded g) = refl
up-beside past t s ne B A Opened = refl
up-beside past t s ne B A NameUsed = refl
up-beside past t s ne B A NoSocket = refl
up-beside past t s ne B A (Wrote n) = refl
up-beside past t s ne B A Full = refl
up-beside past t s ne B A (Bytes at n) = refl
up-beside past t s ne B A Empty = refl
up-beside past t s ne B A End = refl
up-beside past t s ne B A NotYet = refl
up-beside past t s ne B A Ended = refl
up-beside past t s ne B A Done = refl
up-beside past t s ne B A Idle = refl
up-beside past t s ne B A (Reset c) = refl
up-beside past t s ne B A FellBack = refl
up-beside past t s ne B A (Held h) = refl
up-beside past t s ne B A (Sent k) = refl
up-beside past t s ne B A (Declined l) = refl
up-beside past t s ne B A (Landed at) = refl
up-beside past t s ne B A (Completed at) = refl
up-beside past t s ne B A (Dropped token) = refl
up-beside past t s ne B A (Moved from to) = refl
up-beside past t s ne B A (GroupEnded g) = refl

-- and of no end does an event of this kind act as a landing does
no-act : (past : List Entry) (s : ℕ) (dir x : Side) (reply : Reply) → act_by x (Clc s dir) reply past ≡ None
no-act past s dir A reply = refl
no-act past s dir B reply = refl

after-beside : (t s : ℕ) → (t == s) ≡ false → (x dir : Side) (reply : Reply) (st : EndState) → after_event x t (Clc s dir) reply st ≡ st
after-beside t s ne A A reply st = refl
after-beside t s ne B B reply st = refl
after-beside t s ne A B reply st = ap (λ b. if b then after_clc reply st else st) ne
after-beside t s ne B A reply st = ap (λ b. if b then after_clc reply st else st) ne

-- what a post on a socket says there and elsewhere
pub says-here : (x : Side) (s : ℕ) (link : Option LinkId) (m : ClcMessage) (rest : List Post) → AreWired rest → filter_map (clc_in x s) (ClcPost x s link m ∷ rest) ≡ m ∷ []
says-here A s link m rest w = ap (λ b. flat (if b then Some m else None) (filter_map (clc_in A s) rest)) (eq-eqb s s refl) ∙ ap (λ ms. m ∷ ms) (says-nothing A s rest w)
  where
    flat : Option ClcMessage → List ClcMessage → List ClcMessage
    flat None ms = ms
    flat (Some m) ms = m ∷ ms
says-here B s link m rest w = ap (λ b. flat (if b then Some m else None) (filter_map (clc_in B s) rest)) (eq-eqb s s refl) ∙ ap (λ ms. m ∷ ms) (says-nothing B s rest w)
  where
    flat : Option ClcMessage → List ClcMessage → List ClcMessage
    flat None ms = ms
    flat (Some m) ms = m ∷ ms

pub says-beside : (x y : Side) (t s : ℕ) → (t == s) ≡ false → (link : Option LinkId) (m : ClcMessage) (rest : List Post) → AreWired rest → filter_map (clc_in x t) (ClcPost y s link m ∷ rest) ≡ []
says-beside A B t s ne link m rest w = says-nothing A t rest w
says-beside B A t s ne link m rest w = says-nothing B t rest w
says-beside A A t s ne link m rest w = ap (λ b. flat (if b then Some m else None) (filter_map (clc_in A t) rest)) ne ∙ says-nothing A t rest w
  where
    flat : Option ClcMessage → List ClcMessage → List ClcMessage
    flat None ms = ms
    flat (Some m) ms = m ∷ ms
says-beside B B t s ne link m rest w = ap (λ b. flat (if b then Some m else None) (filter_map (clc_in B t) rest)) ne ∙ says-nothing B t rest w
  where
    flat : Option ClcMessage → List ClcMessage → List ClcMessage
    flat None ms = ms
    flat (Some m) ms = m ∷ ms

abbrev flat-offer : Option Offered → List Offered → List Offered
flat-offer None os = os
flat-offer (Some o) os = o ∷ os

pub offers-beside : (x y : Side) (t s : ℕ) → (t == s) ≡ false → (link : Option LinkId) (m : ClcMessage) (rest : List Post) → AreWired rest → filter_map (offer_in x t) (ClcPost y s link m ∷ rest) ≡ []
offers-beside A B t s ne link m rest w = offers-nothing A t rest w
offers-beside B A t s ne link m rest w = offers-nothing B t rest w
offers-beside A A t s ne None m rest w = offers-nothing A t rest w
offers-beside A A t s ne (Some l) (AcceptMessage o) rest w = offers-nothing A t rest w
offers-beside A A t s ne (Some l) (ProposalMessage o) rest w = offers-nothing A t rest w
offers-beside A A t s ne (Some l) (DeclineMessage o) rest w = offers-nothing A t rest w
offers-beside A A t s ne (Some l) (ConfirmMessage o) rest w = ap (λ b. flat-offer (offered_if b l o) (filter_map (offer_in A t) rest)) ne ∙ offers-nothing A t rest w
offers-beside B B t s ne None m rest w = offers-nothing B t rest w
offers-beside B B t s ne (Some l) (AcceptMessage o) rest w = ap (λ b. flat-offer (offered_if b l o) (filter_map (offer_in B t) rest)) ne ∙ offers-nothing B t rest w
offers-beside B B t s ne (Some l) (ProposalMessage o) rest w = offers-nothing B t rest w
offers-beside B B t s ne (Some l) (DeclineMessage o) rest w = offers-nothing B t rest w
offers-beside B B t s ne (Some l) (ConfirmMessage o) rest w = offers-nothing B t rest w

-- the other sides' posts on the same socket
pub says-across : (x : Side) (t s : ℕ) (link : Option LinkId) (m : ClcMessage) (rest : List Post) → AreWired rest → filter_map (clc_in (other x) t) (ClcPost x s link m ∷ rest) ≡ []
says-across A t s link m rest w = says-nothing B t rest w
says-across B t s link m rest w = says-nothing A t rest w

pub offers-across : (x : Side) (t s : ℕ) (link : Option LinkId) (m : ClcMessage) (rest : List Post) → AreWired rest → filter_map (offer_in (other x) t) (ClcPost x s link m ∷ rest) ≡ []
offers-across A t s link m rest w = offers-nothing B t rest w
offers-across B t s link m rest w = offers-nothing A t rest w

-- the two sides, one of which sent
pub each-side : (dir : Side) (P : Side → Type 0) → P dir → P (other dir) → (x : Side) → P x
each-side A P a b A = a
each-side A P a b B = b
each-side B P a b B = a
each-side B P a b A = b

module _ (past : List Entry) (under : Option Under) (actor s : ℕ) (dir : Side) (reply : Reply) (posts : List Post) where
  abbrev e : Entry
  e = record { actor = actor; event = Clc s dir; reply = reply; posts = posts }

  takes-dir : (x : Side) (t : ℕ) (b : Bool) → takes_message reply ≡ b → takes_clc x t (Clc s dir) reply ≡ ((t == s) && (same_side x dir && b))
  takes-dir x t b h = ap (λ c. (t == s) && (same_side x dir && c)) h

  not-taken : (b c : Bool) → (b && (c && false)) ≡ false
  not-taken true c = and-false c
  not-taken false c = refl

  -- the message is left: nothing happens on any socket
  pub held : takes_message reply ≡ false → ((st : EndState) → after_clc reply st ≡ st) → ((x : Side) (t : ℕ) → up_by x t (Clc s dir) reply past ≡ None) → AreWired posts → (t : ℕ) → IsSame t past under e
  held takes stays up w t = same-by past under e t (λ x. takes-dir x t false takes ∙ not-taken (t == s) (same_side x dir)) refl refl (λ x. early x dir (early_state x t past)) (λ x. says-nothing x t posts w) (λ x. offers-nothing x t posts w)
      (λ x h. ap (λ o. option_or o (option_and_then (λ (act : Act). confirmed_by (offered B t past) act.link act.step) (act_in x e past))) (up x t) ∙ ap (λ a. option_and_then (λ (act : Act). confirmed_by (offered B t past) act.link act.step) a) (no-act past s dir x reply))
    where
      if-same : (b : Bool) (st : EndState) → (if b then after_clc reply st else st) ≡ st
      if-same true st = stays st
      if-same false st = refl

      early : (x dir : Side) (st : EndState) → after_event x t (Clc s dir) reply st ≡ st
      early A A st = refl
      early B B st = refl
      early A B st = if-same (t == s) st
      early B A st = if-same (t == s) st

  -- another socket
  pub beside : (t : ℕ) → (t == s) ≡ false → ((x : Side) → filter_map (clc_in x t) posts ≡ []) → ((x : Side) → filter_map (offer_in x t) posts ≡ []) → IsSame t past under e
  beside t ne says makes = same-by past under e t (λ x. ap (λ b. b && (same_side x dir && takes_message reply)) ne) refl refl (λ x. after-beside t s ne x dir reply (early_state x t past)) says makes
      (λ x h. ap (λ o. option_or o (option_and_then (λ (act : Act). confirmed_by (offered B t past) act.link act.step) (act_in x e past))) (up-beside past t s ne x dir reply) ∙ ap (λ a. option_and_then (λ (act : Act). confirmed_by (offered B t past) act.link act.step) a) (no-act past s dir x reply))

  here : (s == s) ≡ true
  here = eq-eqb s s refl

  -- the stream of the sender, whose message is taken
  pub stream-taken : takes_message reply ≡ true → filter_map (clc_in dir s) posts ≡ [] → untaken dir s (e ∷ past) ≡ drop 1 (untaken dir s past)
  stream-taken takes says = ap (λ b. drop (if b then 1 else 0) (untaken dir s past) ++ filter_map (clc_in dir s) posts) (takes-dir dir s true takes ∙ ap (λ b. b && (same_side dir dir && true)) here ∙ self dir) ∙ ap (λ (ms : List ClcMessage). drop 1 (untaken dir s past) ++ ms) says ∙ append-none (drop 1 (untaken dir s past))
    where
      self : (x : Side) → (true && (same_side x x && true)) ≡ true
      self A = refl
      self B = refl

  -- and that of the taker
  pub stream-taker : untaken (other dir) s (e ∷ past) ≡ untaken (other dir) s past ++ filter_map (clc_in (other dir) s) posts
  stream-taker = ap (λ b. drop (if b then 1 else 0) (untaken (other dir) s past) ++ filter_map (clc_in (other dir) s) posts) (apart dir (s == s) (takes_message reply))
    where
      apart : (x : Side) (b c : Bool) → (b && (same_side (other x) x && c)) ≡ false
      apart A b c = and-false b
      apart B b c = and-false b

  pub early-taker : early_state (other dir) s (e ∷ past) ≡ after_loss (loses_group_with (other dir) (group_on s past) e past) (group_on s past) (after_clc reply (early_state (other dir) s past))
  early-taker = ap (λ st. after_loss (loses_group_with (other dir) (group_on s past) e past) (group_on s past) st) (by dir)
    where
      by : (d : Side) → after_event (other d) s (Clc s d) reply (early_state (other d) s past) ≡ after_clc reply (early_state (other d) s past)
      by A = ap (λ b. if b then after_clc reply (early_state B s past) else early_state B s past) here
      by B = ap (λ b. if b then after_clc reply (early_state A s past) else early_state A s past) here

  pub early-sender : early_state dir s (e ∷ past) ≡ after_loss (loses_group_with dir (group_on s past) e past) (group_on s past) (early_state dir s past)
  early-sender = ap (λ st. after_loss (loses_group_with dir (group_on s past) e past) (group_on s past) st) (by dir)
    where
      by : (d : Side) → after_event d s (Clc s d) reply (early_state d s past) ≡ early_state d s past
      by A = refl
      by B = refl

  -- no end comes up, where none is established
  pub up-same : ((x : Side) → up_by x s (Clc s dir) reply past ≡ None) → (x : Side) → is_up x s (e ∷ past) ≡ is_up x s past
  up-same up x = ap (λ o. is_some (option_or o (option_and_then (λ (act : Act). confirmed_by (offered B s past) act.link act.step) (act_in x e past))) || is_up x s past) (up x) ∙ ap (λ a. is_some (option_and_then (λ (act : Act). confirmed_by (offered B s past) act.link act.step) a) || is_up x s past) (no-act past s dir x reply)
