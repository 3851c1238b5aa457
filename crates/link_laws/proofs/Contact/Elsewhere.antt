-- Entries that are about no socket: nothing happens on any, but that an end may come up as its first link is confirmed.
use Rattle.std.proofs.Common.{Bool, List, None, [], ap, arith, drop, false, if◌then◌else◌, inl, length, refl, subst, sym, true, true≢false, ℕ, ◌++◌, ◌+◌, ◌||◌, ◌∙◌, ◌∷◌, ◌≡◌, ◌≤◌, ◌⊎◌}
use Rattle.pipe_model.specs.declared.post.Post.TheVariants.{Clc as ClcPost, Write as WritePost}
use Rattle.std.specs.Prelude.{Option, filter_map, is_some, option_and_then}
use Rattle.std.specs.Option.{option_or}
use Rattle.pipe_model.specs.Fallback.{opens, raws}
use Rattle.pipe_model.specs.Connections.{comes_up}
use Rattle.pipe_model.specs.declared.event.Event.TheVariants.{Clc, Raw, Write}
use Rattle.history_laws.specs.Words.{Abort, Act, Await, B, Cdc, ClcMessage, Close, Complete, Cut, Deliver, EndState, Entry, Event, Fabric, Finish, Grow, Heal, Llc, Move, Offered, Open, Peer, Post, Read, Reply, Report, Side, Swallow, Test, Trim, act_in, after_event, after_loss, clc_in, confirmed_by, early_state, fabric, group_on, groups_begun, head, is_first_contact, is_opened, is_pending, is_raw, is_up, link_at, loses_group_with, made_on, offer_in, offered, peer, phase_at, takes_clc, untaken, up_by}
use Rattle.history_laws.specs.Posts.{AreData}
use Rattle.history_laws.proofs.Posts.{AreWired, begins-nothing, offers-nothing, says-nothing}
use Rattle.history_laws.proofs.Basics.{by-side}
use Rattle.link_laws.specs.Linked.{Under, under_in}
use Rattle.link_laws.proofs.Contact.Changes.{Calm, IsSame, Moves}

pub append-none : {X : Type 0} (xs : List X) → xs ++ [] ≡ xs
append-none [] = refl
append-none (x ∷ xs) = ap (λ ys. x ∷ ys) (append-none xs)

-- data are no messages of the link flow
pub data-under : (ps : List Post) → AreData ps → under_in ps ≡ None
data-under [] d = refl
data-under (WritePost from link key address len ∷ ps) d = data-under ps d.1
data-under (Cdc from link m ∷ ps) d = data-under ps d.1
data-under (Llc from link m ∷ ps) d = absurd (true≢false (sym d.0))
data-under (ClcPost from s link m ∷ ps) d = absurd (true≢false (sym d.0))

-- no group is begun
pub no-group-begun : (past : List Entry) (e : Entry) → AreWired e.posts → groups_begun (e ∷ past) ≡ groups_begun past
no-group-begun past e w = ap (λ (ps : List Post). groups_begun past + length ps) (begins-nothing e.posts w) ∙ omega arith

-- a stream, where the posts say nothing
pub stream-by : (past : List Entry) (e : Entry) (x : Side) (s : ℕ) (b : Bool) → takes_clc x s e.event e.reply ≡ b → AreWired e.posts → untaken x s (e ∷ past) ≡ drop (if b then 1 else 0) (untaken x s past)
stream-by past e x s b t w = ap (λ b. drop (if b then 1 else 0) (untaken x s past) ++ filter_map (clc_in x s) e.posts) t ∙ ap (λ (ms : List ClcMessage). drop (if b then 1 else 0) (untaken x s past) ++ ms) (says-nothing x s e.posts w) ∙ append-none (drop (if b then 1 else 0) (untaken x s past))

pub offer-by : (past : List Entry) (e : Entry) (x : Side) (s : ℕ) → AreWired e.posts → offered x s (e ∷ past) ≡ offered x s past
offer-by past e x s w = ap (λ (os : List Offered). option_or (head os) (offered x s past)) (offers-nothing x s e.posts w)

-- what an entry about other things leaves of a socket
pub same-by : (past : List Entry) (under : Option Under) (e : Entry) (s : ℕ)
    → ((x : Side) → takes_clc x s e.event e.reply ≡ false) → opens s e.event e.reply ≡ false → raws s e.event e.reply ≡ false
    → ((x : Side) → after_event x s e.event e.reply (early_state x s past) ≡ early_state x s past)
    → ((x : Side) → filter_map (clc_in x s) e.posts ≡ []) → ((x : Side) → filter_map (offer_in x s) e.posts ≡ [])
    → ((x : Side) → (offered B s past ≡ None) ⊎ Calm past under → comes_up x s e past ≡ None) → IsSame s past under e
same-by past under e s takes o r early says makes up = record {
  stream = λ x. ap (λ b. drop (if b then 1 else 0) (untaken x s past) ++ filter_map (clc_in x s) e.posts) (takes x) ∙ ap (λ (ms : List ClcMessage). untaken x s past ++ ms) (says x) ∙ append-none (untaken x s past);
  offers = λ x. ap (λ (os : List Offered). option_or (head os) (offered x s past)) (makes x);
  opened = ap (λ b. b || is_opened s past) o;
  raw = ap (λ b. b || is_raw s past) r;
  early = λ x. ap (λ st. after_loss (loses_group_with x (group_on s past) e past) (group_on s past) st) (early x);
  up = λ x h. ap (λ o. is_some o || is_up x s past) (up x h);
}

-- whether an event is about a socket in its handshake
abbrev pub is_about : Event → Bool
is_about (Open s) = true
is_about (Raw s at len) = true
is_about (Clc s dir) = true
is_about event = false

-- the four things that an event about no socket does not do
record IsIdle (past : List Entry) (s : ℕ) (event : Event) (reply : Reply) : Type 0 where
  pub takes : (x : Side) → takes_clc x s event reply ≡ false
  pub opening : opens s event reply ≡ false
  pub rawing : raws s event reply ≡ false
  pub early : (x : Side) (st : EndState) → after_event x s event reply st ≡ st
  pub up : (x : Side) → up_by x s event reply past ≡ None

idle : (past : List Entry) (s : ℕ) (event : Event) (reply : Reply) → is_about event ≡ false → IsIdle past s event reply
idle past s (Open t) reply n = absurd (true≢false n)
idle past s (Raw t at len) reply n = absurd (true≢false n)
idle past s (Clc t dir) reply n = absurd (true≢false n)
idle past s (Write end at len) reply n = record { takes = λ x. refl; opening = refl; rawing = refl; early = by-side (λ x. (st : EndState) → after_event x s (Write end at len) reply st ≡ st) (λ st. refl) (λ st. refl); up = by-side (λ x. up_by x s (Write end at len) reply past ≡ None) refl refl }
idle past s (Read end len) reply n = record { takes = λ x. refl; opening = refl; rawing = refl; early = by-side (λ x. (st : EndState) → after_event x s (Read end len) reply st ≡ st) (λ st. refl) (λ st. refl); up = by-side (λ x. up_by x s (Read end len) reply past ≡ None) refl refl }
idle past s (Finish end) reply n = record { takes = λ x. refl; opening = refl; rawing = refl; early = by-side (λ x. (st : EndState) → after_event x s (Finish end) reply st ≡ st) (λ st. refl) (λ st. refl); up = by-side (λ x. up_by x s (Finish end) reply past ≡ None) refl refl }
idle past s (Close end) reply n = record { takes = λ x. refl; opening = refl; rawing = refl; early = by-side (λ x. (st : EndState) → after_event x s (Close end) reply st ≡ st) (λ st. refl) (λ st. refl); up = by-side (λ x. up_by x s (Close end) reply past ≡ None) refl refl }
idle past s (Abort end) reply n = record { takes = λ x. refl; opening = refl; rawing = refl; early = by-side (λ x. (st : EndState) → after_event x s (Abort end) reply st ≡ st) (λ st. refl) (λ st. refl); up = by-side (λ x. up_by x s (Abort end) reply past ≡ None) refl refl }
idle past s (Await end) reply n = record { takes = λ x. refl; opening = refl; rawing = refl; early = by-side (λ x. (st : EndState) → after_event x s (Await end) reply st ≡ st) (λ st. refl) (λ st. refl); up = by-side (λ x. up_by x s (Await end) reply past ≡ None) refl refl }
idle past s (Deliver slot dir) reply n = record { takes = λ x. refl; opening = refl; rawing = refl; early = by-side (λ x. (st : EndState) → after_event x s (Deliver slot dir) reply st ≡ st) (λ st. refl) (λ st. refl); up = by-side (λ x. up_by x s (Deliver slot dir) reply past ≡ None) refl refl }
idle past s (Complete slot dir) reply n = record { takes = λ x. refl; opening = refl; rawing = refl; early = by-side (λ x. (st : EndState) → after_event x s (Complete slot dir) reply st ≡ st) (λ st. refl) (λ st. refl); up = by-side (λ x. up_by x s (Complete slot dir) reply past ≡ None) refl refl }
idle past s (Swallow slot dir) reply n = record { takes = λ x. refl; opening = refl; rawing = refl; early = by-side (λ x. (st : EndState) → after_event x s (Swallow slot dir) reply st ≡ st) (λ st. refl) (λ st. refl); up = by-side (λ x. up_by x s (Swallow slot dir) reply past ≡ None) refl refl }
idle past s (Cut k) reply n = record { takes = λ x. refl; opening = refl; rawing = refl; early = by-side (λ x. (st : EndState) → after_event x s (Cut k) reply st ≡ st) (λ st. refl) (λ st. refl); up = by-side (λ x. up_by x s (Cut k) reply past ≡ None) refl refl }
idle past s (Heal k) reply n = record { takes = λ x. refl; opening = refl; rawing = refl; early = by-side (λ x. (st : EndState) → after_event x s (Heal k) reply st ≡ st) (λ st. refl) (λ st. refl); up = by-side (λ x. up_by x s (Heal k) reply past ≡ None) refl refl }
idle past s (Report y k) reply n = record { takes = λ x. refl; opening = refl; rawing = refl; early = by-side (λ x. (st : EndState) → after_event x s (Report y k) reply st ≡ st) (λ st. refl) (λ st. refl); up = by-side (λ x. up_by x s (Report y k) reply past ≡ None) refl refl }
idle past s (Move end) reply n = record { takes = λ x. refl; opening = refl; rawing = refl; early = by-side (λ x. (st : EndState) → after_event x s (Move end) reply st ≡ st) (λ st. refl) (λ st. refl); up = by-side (λ x. up_by x s (Move end) reply past ≡ None) refl refl }
idle past s Grow reply n = record { takes = λ x. refl; opening = refl; rawing = refl; early = by-side (λ x. (st : EndState) → after_event x s Grow reply st ≡ st) (λ st. refl) (λ st. refl); up = by-side (λ x. up_by x s Grow reply past ≡ None) refl refl }
idle past s (Test y k) reply n = record { takes = λ x. refl; opening = refl; rawing = refl; early = by-side (λ x. (st : EndState) → after_event x s (Test y k) reply st ≡ st) (λ st. refl) (λ st. refl); up = by-side (λ x. up_by x s (Test y k) reply past ≡ None) refl refl }
idle past s (Trim y) reply n = record { takes = λ x. refl; opening = refl; rawing = refl; early = by-side (λ x. (st : EndState) → after_event x s (Trim y) reply st ≡ st) (λ st. refl) (λ st. refl); up = by-side (λ x. up_by x s (Trim y) reply past ≡ None) refl refl }

-- an entry about no socket leaves each socket as it is, where what lands confirms no first link
pub elsewhere : (past : List Entry) (under : Option Under) (e : Entry) (s : ℕ) → is_about e.event ≡ false → AreWired e.posts
    → ((x : Side) → (offered B s past ≡ None) ⊎ Calm past under → option_and_then (λ (act : Act). confirmed_by (offered B s past) act.link act.step) (act_in x e past) ≡ None) → IsSame s past under e
elsewhere past under e s n w up = let i : IsIdle past s e.event e.reply = idle past s e.event e.reply n in
    same-by past under e s i.takes i.opening i.rawing (λ x. i.early x (early_state x s past)) (λ x. says-nothing x s e.posts w) (λ x. offers-nothing x s e.posts w)
    (λ x h. ap (λ o. option_or o (option_and_then (λ (act : Act). confirmed_by (offered B s past) act.link act.step) (act_in x e past))) (i.up x) ∙ up x h)

-- an entry that leaves the two sides as they are
pub moves-same : (past : List Entry) (under : Option Under) (e : Entry) → fabric (e ∷ past) ≡ fabric past → under_in e.posts ≡ None → Moves past under e
moves-same past under e same kept = record {
  group = λ x. inl (ap (λ (f : Fabric). (peer x f).group) same);
  first = λ x h. (ap (λ (f : Fabric). is_first (peer x f)) (sym same) ∙ h, ap (λ (f : Fabric). (peer x f).group) same);
  pending = λ x l m at p. (ap (λ (f : Fabric). link_at l.slot (peer x f).table) (sym same) ∙ at, ap (λ (f : Fabric). is_pending (phase_at l.slot (peer x f).table)) (sym same) ∙ p);
  made = λ k. subst (λ f. made_on k (fabric past) ≤ made_on k f) (sym same) (omega arith);
  next = λ t k. ap (λ f. made_on k f) same;
  empty = λ t. ap (λ (f : Fabric). f.b.group) same;
  still = λ x c st g. (ap (λ (f : Fabric). (peer x f).flow) same, ap (λ (f : Fabric). (peer x f).table) same);
  none = λ link u c. kept;
}
  where
    is_first : Peer → Bool
    is_first p = is_first_contact p.flow.link
