-- What the pipes post are writes and CDC messages alone, and nothing but the wires and the pipes sees those.
use Rattle.std.proofs.Common.{◌≡◌, ◌∙◌, ℕ, ◌+◌, Bool, true, false, List, [], ◌∷◌, ◌++◌, length, filter, filter_map, flat_map, refl, ap, sym, Option, Some, None, if◌then◌else◌, cond, drop}
use Rattle.std.proofs.lemmas.List.Elements.{filter_map-append}
use Rattle.std.specs.List.{cons_option}
use Rattle.pipe_model.specs.Snapshot.{validation, spelled}
use Rattle.smc_num.specs.Places.{address_of}
use Rattle.std.specs.Prelude.{fold, nat_le, ◌%◌, ◌-◌, not, ◌&&◌, ◌==◌, ◌||◌}
use Rattle.smc_num.specs.declared.Side.{Side}
use Rattle.smc_num.specs.declared.Side.TheVariants.{A, B}
use Rattle.smc_num.specs.declared.LinkId.{LinkId}
use Rattle.smc_num.specs.Names.{head, same_link}
use Rattle.smc_num.specs.Links.{Known, link_at}
use Rattle.smc_num.specs.Places.{Place}
use Rattle.clc_wire.specs.declared.offer.Offer.{Offer}
use Rattle.cdc_wire.specs.declared.CdcMessage.{CdcMessage}
use Rattle.pipe_model.specs.declared.reply.SentKind.TheVariants.{Accept as AcceptSent, Confirm as ConfirmSent, ConfirmRkey as KeySent, AddLink as AddLinkSent, DeleteRkey as DeleteSent, TestLink as TestSent}
use Rattle.pipe_model.specs.declared.event.Event.{Event}
use Rattle.pipe_model.specs.declared.event.Event.TheVariants.{Clc as ClcEvent, Deliver, Report, Test, Grow, Trim}
use Rattle.pipe_model.specs.declared.reply.Reply.{Reply}
use Rattle.pipe_model.specs.declared.reply.Reply.TheVariants.{Sent, Landed, Done, GroupEnded}
use Rattle.pipe_model.specs.declared.post.Post.{Post}
use Rattle.pipe_model.specs.declared.post.Post.TheVariants.{Write, Cdc, Llc, Clc}
use Rattle.pipe_model.specs.declared.setup.Setup.{Setup}
use Rattle.pipe_model.specs.declared.entry.Entry.{Entry}
use Rattle.pipe_model.specs.Words.{element_size, passes}
use Rattle.pipe_model.specs.History.{Offered, offered, offer_in, next_number, numbered}
use Rattle.pipe_model.specs.Fabric.{Fabric, after, by_post, begins, asks_key, asks_link, asks_delete, fabric, peer, act_in, flow_of, group_of, is_latest, path_up, table_of}
use Rattle.pipe_model.specs.Wires.{is_on, unlanded, if_latest, leaves, cuts, is_cut}
use Rattle.pipe_model.specs.declared.sent.Sent.{Sent as SentMessage}
use Rattle.pipe_model.specs.Pipe.{posts_of}
use Rattle.pipe_model.specs.Connections.{group_on, items, part, after_event, after_loss, early_state}
use Rattle.pipe_model.specs.Lending.{lends, lendings, terms_of, Lending}
use Rattle.pipe_model.specs.Keys.{Keys, by_post as keys_by_post, by_act, if_group, book_act, book_clc, keys_of, book_of}
use Rattle.pipe_model.specs.Fallback.{clc_in, takes_clc, untaken}
use Rattle.pipe_model.specs.Posts.{writes, offered_place, cdc_posts, sent_posts, end_posts, pipe_posts, connection_posts, offered_sockets, begins_group_in, groups_begun}
use Rattle.world_core.specs.OneLink.{llc_of, llc_in, posted_llc}
use Rattle.world_core.specs.Views.{is_data, AreData, plus, ShowsSame}
use Rattle.std.specs.Option.{option_or}
use Rattle.clc_wire.specs.declared.message.ClcMessage.{ClcMessage}
use Rattle.pipe_model.specs.declared.post.Placed.{Placed}

pub data-append : (ps qs : List Post) → AreData ps → AreData qs → AreData (ps ++ qs)
data-append [] qs a b = b
data-append (p ∷ ps) qs a b = (a.0, data-append ps qs a.1 b)

data-flat : {X : Type 0} (f : X → List Post) → ((x : X) → AreData (f x)) → (xs : List X) → AreData (flat_map f xs)
data-flat f each [] = tt
data-flat f each (x ∷ xs) = data-append (f x) (flat_map f xs) (each x) (data-flat f each xs)

data-one : (p : Post) → is_data p ≡ true → AreData (p ∷ [])
data-one p e = (e, tt)

data-either : (b : Bool) (ps qs : List Post) → AreData ps → AreData qs → AreData (if b then ps else qs)
data-either true ps qs a c = a
data-either false ps qs a c = c

three : (a b : Bool) (p q r : Post) → is_data p ≡ true → is_data q ≡ true → is_data r ≡ true → AreData (if a then [] else if b then p ∷ [] else q ∷ r ∷ [])
three true b p q r e f g = tt
three false true p q r e f g = (e, tt)
three false false p q r e f g = (f, (g, tt))

data-writes : (size : ℕ) (x : Side) (link : LinkId) (key : ℕ) (place : Place) (from to : ℕ) → AreData (writes size x link key place from to)
data-writes size x link key place from to =
    three (from == to) (nat_le (from % size + (to - from)) size) (Write x link key (address_of size place from) (to - from)) (Write x link key (address_of size place from) (size - from % size))
    (Write x link key (address_of size place 0) (to - from - (size - from % size))) refl refl refl

data-cdc : (size : ℕ) (x : Side) (key : ℕ) (o : Offer) (m : SentMessage) → AreData (cdc_posts size x key o m)
data-cdc size x key o m =
    data-either m.check (Cdc x m.link (validation size o.token m.snapshot) ∷ []) (writes size x m.link key (offered_place o) m.from m.snapshot.told ++ Cdc x m.link (spelled size o.token m.snapshot) ∷ [])
    (data-one (Cdc x m.link (validation size o.token m.snapshot)) refl)
    (data-append (writes size x m.link key (offered_place o) m.from m.snapshot.told) (Cdc x m.link (spelled size o.token m.snapshot) ∷ []) (data-writes size x m.link key (offered_place o) m.from m.snapshot.told) (refl, tt))

data-sent : (size : ℕ) (x : Side) (o : Option Offered) (past : List Entry) (m : SentMessage) → AreData (sent_posts size x o past m)
data-sent size x None past m = tt
data-sent size x (Some o) past m = data-cdc size x _ o.offer m

-- what the pipes post with an entry
pub connections-data : (setup : Setup) (payload : List ℕ) (e : Entry) (past : List Entry) → AreData (connection_posts setup payload e past)
connections-data setup payload e past =
    data-flat (λ s. pipe_posts setup payload s e past)
    (λ s. data-append (end_posts setup payload A s e past) (end_posts setup payload B s e past)
    (data-flat (sent_posts (element_size setup) A (offered B s past) (e ∷ past)) (data-sent (element_size setup) A (offered B s past) (e ∷ past)) (posts_of (terms_of setup) A (items payload (group_on s past) s e past) (part payload (group_on s past) s past)))
    (data-flat (sent_posts (element_size setup) B (offered A s past) (e ∷ past)) (data-sent (element_size setup) B (offered A s past) (e ∷ past)) (posts_of (terms_of setup) B (items payload (group_on s past) s e past) (part payload (group_on s past) s past))))
    (offered_sockets setup past)

-- what holds of a write and of a CDC message holds of them
pub by-data : (P : Post → Type 0) → ((from : Side) (link : LinkId) (key address len : ℕ) → P (Write from link key address len))
    → ((from : Side) (link : LinkId) (m : CdcMessage) → P (Cdc from link m)) → (p : Post) → is_data p ≡ true → P p
by-data P w c (Write from link key address len) e = w from link key address len
by-data P w c (Cdc from link m) e = c from link m
by-data P w c (Llc from link m) e = cc
by-data P w c (Clc from s link m) e = cc

-- words on lists that pass over them
pub unseen-filter_map : {X : Type 0} (f : Post → Option X) → ((p : Post) → is_data p ≡ true → f p ≡ None) → (ps more : List Post) → AreData more → filter_map f (ps ++ more) ≡ filter_map f ps
unseen-filter_map f skips [] [] a = refl
unseen-filter_map f skips [] (m ∷ more) a = rw (skips m a.0) (unseen-filter_map f skips [] more a.1)
unseen-filter_map f skips (p ∷ ps) more a = rw (unseen-filter_map f skips ps more a) refl

pub unseen-filter : (f : Post → Bool) → ((p : Post) → is_data p ≡ true → f p ≡ false) → (ps more : List Post) → AreData more → filter f (ps ++ more) ≡ filter f ps
unseen-filter f skips [] [] a = refl
unseen-filter f skips [] (m ∷ more) a = rw (skips m a.0) (unseen-filter f skips [] more a.1)
unseen-filter f skips (p ∷ ps) more a = rw (unseen-filter f skips ps more a) refl

unseen-fold : {K : Type 0} (f : K → Post → K) → ((k : K) (p : Post) → is_data p ≡ true → f k p ≡ k) → (k : K) (ps more : List Post) → AreData more → fold f k (ps ++ more) ≡ fold f k ps
unseen-fold f skips k [] [] a = refl
unseen-fold f skips k [] (m ∷ more) a = ap (λ j. fold f j more) (skips k m a.0) ∙ unseen-fold f skips k [] more a.1
unseen-fold f skips k (p ∷ ps) more a = unseen-fold f skips (f k p) ps more a

unseen-first : (change : Post → Fabric → Fabric) → ((p : Post) → is_data p ≡ true → (f : Fabric) → change p f ≡ f) → (ps more : List Post) → AreData more → (f : Fabric) → by_post change (ps ++ more) f ≡ by_post change ps f
unseen-first change skips [] [] a f = refl
unseen-first change skips [] (m ∷ more) a f = skips m a.0 f
unseen-first change skips (p ∷ ps) more a f = refl

-- the links
no-begins : (p : Post) → is_data p ≡ true → (f : Fabric) → begins p f ≡ f
no-begins = by-data (λ p. (f : Fabric) → begins p f ≡ f) (λ from link key address len f. refl) (λ from link m f. refl)

no-key : (x : Side) (p : Post) → is_data p ≡ true → (f : Fabric) → asks_key x p f ≡ f
no-key x = by-data (λ p. (f : Fabric) → asks_key x p f ≡ f) (λ from link key address len f. refl) (λ from link m f. refl)

no-add : (p : Post) → is_data p ≡ true → (f : Fabric) → asks_link p f ≡ f
no-add = by-data (λ p. (f : Fabric) → asks_link p f ≡ f) (λ from link key address len f. refl) (λ from link m f. refl)

no-delete : (x : Side) (p : Post) → is_data p ≡ true → (f : Fabric) → asks_delete x p f ≡ f
no-delete x = by-data (λ p. (f : Fabric) → asks_delete x p f ≡ f) (λ from link key address len f. refl) (λ from link m f. refl)

pub unseen-after : (event : Event) (reply : Reply) (ps more : List Post) (past : List Entry) (f : Fabric) → AreData more → after event reply (ps ++ more) past f ≡ after event reply ps past f
unseen-after (ClcEvent s dir) (Sent AcceptSent) ps more past f a = unseen-first begins no-begins ps more a f
unseen-after (ClcEvent s dir) (Sent ConfirmSent) ps more past f a = unseen-first begins no-begins ps more a f
unseen-after (ClcEvent s A) (Sent KeySent) ps more past f a = unseen-first (asks_key B) (no-key B) ps more a f
unseen-after (ClcEvent s B) (Sent KeySent) ps more past f a = unseen-first (asks_key A) (no-key A) ps more a f
unseen-after Grow (Sent AddLinkSent) ps more past f a = unseen-first asks_link no-add ps more a f
unseen-after (Trim x) (Sent DeleteSent) ps more past f a = unseen-first (asks_delete x) (no-delete x) ps more a f
unseen-after (Deliver slot dir) (Landed at) ps more past f a = refl
unseen-after (Report x slot) Done ps more past f a = refl
unseen-after (Report x slot) (GroupEnded group) ps more past f a = refl
unseen-after (Test x slot) (Sent TestSent) ps more past f a = refl
unseen-after _ _ ps more past f a = refl

-- the rest
pub no-offer : (x : Side) (s : ℕ) (p : Post) → is_data p ≡ true → offer_in x s p ≡ None
no-offer A s = by-data (λ p. offer_in A s p ≡ None) (λ from link key address len. refl) (λ from link m. refl)
no-offer B s = by-data (λ p. offer_in B s p ≡ None) (λ from link key address len. refl) (λ from link m. refl)

pub no-lending : (x : Side) (p : Post) → is_data p ≡ true → lends x p ≡ None
no-lending A = by-data (λ p. lends A p ≡ None) (λ from link key address len. refl) (λ from link m. refl)
no-lending B = by-data (λ p. lends B p ≡ None) (λ from link key address len. refl) (λ from link m. refl)

no-clc : (x : Side) (s : ℕ) (p : Post) → is_data p ≡ true → clc_in x s p ≡ None
no-clc x s = by-data (λ p. clc_in x s p ≡ None) (λ from link key address len. refl) (λ from link m. refl)

no-group : (p : Post) → is_data p ≡ true → begins_group_in p ≡ false
no-group = by-data (λ p. begins_group_in p ≡ false) (λ from link key address len. refl) (λ from link m. refl)

no-keys : (x : Side) (table : List Known) (ks : Keys) (p : Post) → is_data p ≡ true → keys_by_post x table ks p ≡ ks
no-keys A table ks = by-data (λ p. keys_by_post A table ks p ≡ ks) (λ from link key address len. refl) (λ from link m. refl)
no-keys B table ks = by-data (λ p. keys_by_post B table ks p ≡ ks) (λ from link key address len. refl) (λ from link m. refl)

no-llc : (p : Post) → is_data p ≡ true → llc_of p ≡ None
no-llc = by-data (λ p. llc_of p ≡ None) (λ from link key address len. refl) (λ from link m. refl)

pub unseen-lends : (x : Side) (ps more : List Post) → AreData more → filter_map (lends x) (ps ++ more) ≡ filter_map (lends x) ps
unseen-lends x ps more a = unseen-filter_map (lends x) (no-lending x) ps more a

-- the LLC posts on a wire
skip-llc : (b : Bool) (c : Placed) (cs : List Placed) → llc_of c.post ≡ None → filter_map llc_in (cond b (c ∷ cs) cs) ≡ filter_map llc_in cs
skip-llc true c cs e = rw e refl
skip-llc false c cs e = refl

cond-llc : (b : Bool) (c : Placed) (cs ds : List Placed) → filter_map llc_in cs ≡ filter_map llc_in ds → filter_map llc_in (cond b (c ∷ cs) cs) ≡ filter_map llc_in (cond b (c ∷ ds) ds)
cond-llc true c cs ds e = ap (λ ps. cons_option (llc_in c) ps) e
cond-llc false c cs ds e = e

unseen-llc : (link : LinkId) (x : Side) (entry first : ℕ) (ps more : List Post) → AreData more → posted_llc link x entry first (ps ++ more) ≡ posted_llc link x entry first ps
unseen-llc link x entry first [] [] a = refl
unseen-llc link x entry first [] (m ∷ more) a =
    let c : Placed = record { at = record { entry = entry; post = first }; post = m } in
    skip-llc (is_on link x m) c (filter (λ c. is_on link x c.post) (numbered entry (first + 1) more)) (no-llc m a.0) ∙ unseen-llc link x entry (first + 1) [] more a.1
unseen-llc link x entry first (p ∷ ps) more a =
    let c : Placed = record { at = record { entry = entry; post = first }; post = p } in
    cond-llc (is_on link x p) c (filter (λ c. is_on link x c.post) (numbered entry (first + 1) (ps ++ more))) (filter (λ c. is_on link x c.post) (numbered entry (first + 1) ps))
    (unseen-llc link x entry (first + 1) ps more a)

-- an entry shows the same with more of them
module _ (d : Entry) (more : List Post) (older : List Entry) (a : AreData more) where
  unseen-fabric : fabric (plus d more ∷ older) ≡ fabric (d ∷ older)
  unseen-fabric = unseen-after d.event d.reply d.posts more older (fabric older) a

  unseen-keys : (x : Side) → keys_of x (plus d more ∷ older) ≡ keys_of x (d ∷ older)
  unseen-keys x =
      let f = unseen-fabric in
      ap (λ (g : Fabric). if_group (peer x g).group (fold (keys_by_post x (peer x g).table) (by_act x (flow_of x older) (peer x g).table (act_in x d older) (keys_of x older)) (d.posts ++ more))) f
      ∙ ap (if_group (group_of x (d ∷ older))) (unseen-fold (keys_by_post x (table_of x (d ∷ older))) (no-keys x (table_of x (d ∷ older))) _ d.posts more a)

  pub shows-plus : ShowsSame (plus d more ∷ older) (d ∷ older)
  shows-plus = record {
    path = refl;
    cut = λ link. ap (λ (g : Fabric). (cuts link d.event d.reply older || ((passes (same_link link) (link_at link.slot g.latest) && not (is_latest link older)) && not (path_up link.slot older))) || is_cut link older) unseen-fabric;
    groups = ap (λ (ps : List Post). groups_begun older + length ps) (unseen-filter begins_group_in no-group d.posts more a);
    fabric_is = unseen-fabric;
    offer = λ x s. ap (λ (os : List Offered). option_or (head os) (offered x s older)) (unseen-filter_map (offer_in x s) (no-offer x s) d.posts more a);
    messages = λ x s. ap (λ (ms : List ClcMessage). drop (if takes_clc x s d.event d.reply then 1 else 0) (untaken x s older) ++ ms) (unseen-filter_map (clc_in x s) (no-clc x s) d.posts more a);
    lent = λ x. ap (λ (ls : List Lending). ls ++ lendings x older) (unseen-filter_map (lends x) (no-lending x) d.posts more a);
    keys = unseen-keys;
    book = λ x. ap (λ (g : Fabric). if (peer x g).group == 0 then [] else book_clc x d.event d.reply older (book_act (table_of x older) (act_in x d older) (book_of x older))) unseen-fabric;
    up = λ x s. refl;
    early = λ x s. ap (λ (g : Fabric). after_loss (not (group_on s older == 0) && ((group_of x older == group_on s older) && not ((peer x g).group == group_on s older))) (group_on s older) (after_event x s d.event d.reply (early_state x s older))) unseen-fabric;
    raw = λ s. refl;
    opened = λ s. refl;
    waiting = λ link x.
        let kept : List Placed = drop (if_latest link older (leaves x link.slot d.event d.reply)) (unlanded link x older) in
        filter_map-append llc_in kept (filter (λ c. is_on link x c.post) (numbered (next_number older) 1 (d.posts ++ more)))
        ∙ (ap (λ (ps : List Post). filter_map llc_in kept ++ ps) (unseen-llc link x (next_number older) 1 d.posts more a)
        ∙ sym (filter_map-append llc_in kept (filter (λ c. is_on link x c.post) (numbered (next_number older) 1 d.posts))));
  }
