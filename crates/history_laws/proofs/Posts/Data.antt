-- What the pipes post are writes and CDC messages alone, and nothing but the wires and the pipes sees those.
use Rattle.std.proofs.Common.{Bool, List, None, Option, Some, [], false, flat_map, if◌then◌else◌, refl, true, ℕ, ◌++◌, ◌+◌, ◌∷◌, ◌≡◌}
use Rattle.std.specs.Prelude.{nat_le, ◌%◌, ◌-◌, ◌==◌}
use Rattle.pipe_model.specs.declared.post.Post.TheVariants.{Clc, Write}
use Rattle.smc_num.specs.Places.{address_of}
use Rattle.pipe_model.specs.declared.sent.Sent.{Sent as SentMessage}
use Rattle.pipe_model.specs.Fabric.{after, begins, by_post}
use Rattle.pipe_model.specs.declared.event.Event.TheVariants.{Clc as ClcEvent}
use Rattle.pipe_model.specs.declared.reply.Reply.TheVariants.{Sent}
use Rattle.pipe_model.specs.declared.reply.SentKind.TheVariants.{Accept as AcceptSent, AddLink as AddLinkSent, Confirm as ConfirmSent, DeleteRkey as DeleteSent, ConfirmRkey as KeySent, TestLink as TestSent}
use Rattle.history_laws.specs.Words.{A, B, Cdc, CdcMessage, Deliver, Done, Entry, Event, Fabric, GroupEnded, Grow, Landed, LinkId, Llc, Offer, Offered, Place, Post, Reply, Report, Setup, Side, Test, Trim, asks_delete, asks_key, asks_link, cdc_posts, connection_posts, element_size, end_posts, group_on, items, offered, offered_place, offered_sockets, part, pipe_posts, posts_of, sent_posts, spelled, terms_of, validation, writes}
use Rattle.history_laws.specs.Posts.{AreData, is_data}

pub data-append : (ps qs : List Post) → AreData ps → AreData qs → AreData (ps ++ qs)
data-append [] qs a b = b
data-append (p ∷ ps) qs a b = (a.0, data-append ps qs a.1 b)

data-flat : {X : Type 0} (f : X → List Post) → ((x : X) → AreData (f x)) → (xs : List X) → AreData (flat_map f xs)
data-flat f each [] = tt
data-flat f each (x ∷ xs) = data-append (f x) (flat_map f xs) (each x) (data-flat f each xs)

data-one : (p : Post) → is_data p ≡ true → AreData (p ∷ [])
data-one p e = (e, tt)

data-either : (b : Bool) (ps qs : List Post) → AreData ps → AreData qs → AreData (if b then ps else qs)
data-either true ps qs a c = a
data-either false ps qs a c = c

three : (a b : Bool) (p q r : Post) → is_data p ≡ true → is_data q ≡ true → is_data r ≡ true → AreData (if a then [] else if b then p ∷ [] else q ∷ r ∷ [])
three true b p q r e f g = tt
three false true p q r e f g = (e, tt)
three false false p q r e f g = (f, (g, tt))

data-writes : (size : ℕ) (x : Side) (link : LinkId) (key : ℕ) (place : Place) (from to : ℕ) → AreData (writes size x link key place from to)
data-writes size x link key place from to =
    three (from == to) (nat_le (from % size + (to - from)) size) (Write x link key (address_of size place from) (to - from)) (Write x link key (address_of size place from) (size - from % size))
    (Write x link key (address_of size place 0) (to - from - (size - from % size))) refl refl refl

data-cdc : (size : ℕ) (x : Side) (key : ℕ) (o : Offer) (m : SentMessage) → AreData (cdc_posts size x key o m)
data-cdc size x key o m =
    data-either m.check (Cdc x m.link (validation size o.token m.snapshot) ∷ []) (writes size x m.link key (offered_place o) m.from m.snapshot.told ++ Cdc x m.link (spelled size o.token m.snapshot) ∷ [])
    (data-one (Cdc x m.link (validation size o.token m.snapshot)) refl)
    (data-append (writes size x m.link key (offered_place o) m.from m.snapshot.told) (Cdc x m.link (spelled size o.token m.snapshot) ∷ []) (data-writes size x m.link key (offered_place o) m.from m.snapshot.told) (refl, tt))

data-sent : (size : ℕ) (x : Side) (o : Option Offered) (past : List Entry) (m : SentMessage) → AreData (sent_posts size x o past m)
data-sent size x None past m = tt
data-sent size x (Some o) past m = data-cdc size x _ o.offer m

-- what the pipes post with an entry
pub connections-data : (setup : Setup) (payload : List ℕ) (e : Entry) (past : List Entry) → AreData (connection_posts setup payload e past)
connections-data setup payload e past =
    data-flat (λ s. pipe_posts setup payload s e past)
    (λ s. data-append (end_posts setup payload A s e past) (end_posts setup payload B s e past)
    (data-flat (sent_posts (element_size setup) A (offered B s past) (e ∷ past)) (data-sent (element_size setup) A (offered B s past) (e ∷ past)) (posts_of (terms_of setup) A (items payload (group_on s past) s e past) (part payload (group_on s past) s past)))
    (data-flat (sent_posts (element_size setup) B (offered A s past) (e ∷ past)) (data-sent (element_size setup) B (offered A s past) (e ∷ past)) (posts_of (terms_of setup) B (items payload (group_on s past) s e past) (part payload (group_on s past) s past))))
    (offered_sockets setup past)

-- what holds of a write and of a CDC message holds of them
pub by-data : (P : Post → Type 0) → ((from : Side) (link : LinkId) (key address len : ℕ) → P (Write from link key address len))
    → ((from : Side) (link : LinkId) (m : CdcMessage) → P (Cdc from link m)) → (p : Post) → is_data p ≡ true → P p
by-data P w c (Write from link key address len) e = w from link key address len
by-data P w c (Cdc from link m) e = c from link m
by-data P w c (Llc from link m) e = cc
by-data P w c (Clc from s link m) e = cc

unseen-first : (change : Post → Fabric → Fabric) → ((p : Post) → is_data p ≡ true → (f : Fabric) → change p f ≡ f) → (ps more : List Post) → AreData more → (f : Fabric) → by_post change (ps ++ more) f ≡ by_post change ps f
unseen-first change skips [] [] a f = refl
unseen-first change skips [] (m ∷ more) a f = skips m a.0 f
unseen-first change skips (p ∷ ps) more a f = refl

-- the links
no-begins : (p : Post) → is_data p ≡ true → (f : Fabric) → begins p f ≡ f
no-begins = by-data (λ p. (f : Fabric) → begins p f ≡ f) (λ from link key address len f. refl) (λ from link m f. refl)

no-key : (x : Side) (p : Post) → is_data p ≡ true → (f : Fabric) → asks_key x p f ≡ f
no-key x = by-data (λ p. (f : Fabric) → asks_key x p f ≡ f) (λ from link key address len f. refl) (λ from link m f. refl)

no-add : (p : Post) → is_data p ≡ true → (f : Fabric) → asks_link p f ≡ f
no-add = by-data (λ p. (f : Fabric) → asks_link p f ≡ f) (λ from link key address len f. refl) (λ from link m f. refl)

no-delete : (x : Side) (p : Post) → is_data p ≡ true → (f : Fabric) → asks_delete x p f ≡ f
no-delete x = by-data (λ p. (f : Fabric) → asks_delete x p f ≡ f) (λ from link key address len f. refl) (λ from link m f. refl)

pub unseen-after : (event : Event) (reply : Reply) (ps more : List Post) (past : List Entry) (f : Fabric) → AreData more → after event reply (ps ++ more) past f ≡ after event reply ps past f
unseen-after (ClcEvent s dir) (Sent AcceptSent) ps more past f a = unseen-first begins no-begins ps more a f
unseen-after (ClcEvent s dir) (Sent ConfirmSent) ps more past f a = unseen-first begins no-begins ps more a f
unseen-after (ClcEvent s A) (Sent KeySent) ps more past f a = unseen-first (asks_key B) (no-key B) ps more a f
unseen-after (ClcEvent s B) (Sent KeySent) ps more past f a = unseen-first (asks_key A) (no-key A) ps more a f
unseen-after Grow (Sent AddLinkSent) ps more past f a = unseen-first asks_link no-add ps more a f
unseen-after (Trim x) (Sent DeleteSent) ps more past f a = unseen-first (asks_delete x) (no-delete x) ps more a f
unseen-after (Deliver slot dir) (Landed at) ps more past f a = refl
unseen-after (Report x slot) Done ps more past f a = refl
unseen-after (Report x slot) (GroupEnded group) ps more past f a = refl
unseen-after (Test x slot) (Sent TestSent) ps more past f a = refl
unseen-after _ _ ps more past f a = refl
