-- The posts of an entry come from the side that acts and go on the one link, and at most one CDC message is among them, the last.
use Rattle.std.proofs.Common.{◌≡◌, ◌∙◌, ◌⊎◌, inl, inr, ℕ, ◌+◌, ◌-◌, ◌<◌, ◌≤◌, ◌==◌, ◌%◌, Bool, true, false, not, if◌then◌else◌, List, [], ◌∷◌, ◌++◌, length, take, drop, filter, filter_map, refl, ap, sym, subst, ◌&&◌, true≢false, arith, length-append}
use Rattle.std.specs.Prelude.{Option, Some, None, is_some, nat_le, unwrap_or, cond}
use Rattle.std.specs.List.{cons_option}
use Rattle.std.proofs.lemmas.List.Elements.{filter_map-append}
use Rattle.smc_num.specs.declared.Side.{Side}
use Rattle.smc_num.specs.declared.Side.TheVariants.{A, B}
use Rattle.smc_num.specs.declared.LinkId.{LinkId}
use Rattle.smc_num.specs.Names.{other, same_side, same_link, head}
use Rattle.smc_num.specs.Places.{rmb_at}
use Rattle.cdc_wire.specs.declared.CdcMessage.{CdcMessage}
use Rattle.clc_wire.specs.declared.message.ClcMessage.{ClcMessage}
use Rattle.llc_wire.specs.declared.LlcMessage.{LlcMessage}
use Rattle.pipe_model.specs.declared.setup.Setup.{Setup}
use Rattle.pipe_model.specs.declared.event.Event.{Event}
use Rattle.pipe_model.specs.declared.event.Event.TheVariants.{Open, Write as WriteEvent, Read, Clc as ClcEvent, Deliver, Complete}
use Rattle.pipe_model.specs.declared.reply.Reply.{Reply}
use Rattle.pipe_model.specs.declared.post.Post.{Post}
use Rattle.pipe_model.specs.declared.post.Post.TheVariants.{Write, Cdc, Llc, Clc}
use Rattle.pipe_model.specs.declared.post.Placed.{Placed}
use Rattle.pipe_model.specs.declared.entry.Entry.{Entry}
use Rattle.pipe_model.specs.declared.sent.Sent.{Sent}
use Rattle.pipe_model.specs.Words.{element_size}
use Rattle.pipe_model.specs.Snapshot.{spelled, validation}
use Rattle.pipe_model.specs.History.{Offered, next_number, numbered}
use Rattle.pipe_model.specs.Wires.{is_on, unlanded}
use Rattle.pipe_model.specs.Calls.{Writes, Reads}
use Rattle.pipe_model.specs.Pipe.{Lands, Completes, posts_of}
use Rattle.pipe_model.specs.Connections.{deeds, items, part, landed_at, completed_at}
use Rattle.pipe_model.specs.Lending.{terms_of}
use Rattle.pipe_model.specs.Keys.{last_bound}
use Rattle.pipe_model.specs.Posts.{writes, offered_place, sent_posts, connection_posts}
use Rattle.pipe_model.specs.Lawful.{draft}
use Rattle.pipe_model.specs.Fits.{Fits}
use Rattle.world_core.specs.Played.{IsOneLink, IsMade, IsPlayed}
use Rattle.world_core.specs.OneLink.{the_link, llc_of, llc_in, posted_llc}
use Rattle.world_core.specs.Wired.{EachItem}
use Rattle.world_core.specs.WireSteps.{EachPost, IsCdcOn, leaving}
use Rattle.world_core.specs.Agreement.{HasOffers, PostsOne, PostsFew, GivesItems}
use Rattle.world_core.specs.Sending.{acting_side}
use Rattle.world_core.proofs.AskedPosts.{IsControl, asked-control}
use Rattle.world_core.proofs.AskedFrom.{IsFrom, AreFew, asked-few}
use Rattle.world_core.proofs.Ways.{call-items, own-items}
use Rattle.world_core.proofs.Own.{grouped}
use Rattle.world_core.proofs.Senders.{rests}
use Rattle.world_core.proofs.Batches.{given-none}
use Rattle.world_core.proofs.PipePosts.{given}
use Rattle.world_core.proofs.Agreed.{posts-on}
use Rattle.world_core.proofs.Carrying.{same-link as link-self}
use Rattle.world_core.proofs.PlayedWorlds.{played}
use Rattle.world_core.proofs.Shaken.{only-link}
use Rattle.world_core.proofs.Handshaken.{shaken, has-offers, one-batch, gives-items}
use Rattle.world_core.proofs.Plain.{same-self, link-is}

-- that a post comes from a side: on the one link, or on a known socket
abbrev pub IsSentBy : ℕ → Side → Post → Type 0
IsSentBy sockets y (Write from link key address len) = (from ≡ y) × (link ≡ the_link)
IsSentBy sockets y (Cdc from link message) = (from ≡ y) × (link ≡ the_link)
IsSentBy sockets y (Llc from link message) = (from ≡ y) × (link ≡ the_link)
IsSentBy sockets y (Clc from s link message) = (from ≡ y) × (s < sockets)

-- that nothing follows a CDC message
abbrev pub EndsWithCdc : List Post → Type 0
EndsWithCdc [] = Unit {0}
EndsWithCdc (Cdc from link message ∷ posts) = posts ≡ []
EndsWithCdc (post ∷ posts) = EndsWithCdc posts

-- lists of posts
each-both : (P : Post → Type 0) (ps qs : List Post) → EachPost P ps → EachPost P qs → EachPost P (ps ++ qs)
each-both P [] qs p q = q
each-both P (post ∷ ps) qs p q = (p.0, each-both P ps qs p.1 q)

each-left : (P : Post → Type 0) (ps qs : List Post) → EachPost P (ps ++ qs) → EachPost P ps
each-left P [] qs p = tt
each-left P (post ∷ ps) qs p = (p.0, each-left P ps qs p.1)

each-right : (P : Post → Type 0) (ps qs : List Post) → EachPost P (ps ++ qs) → EachPost P qs
each-right P [] qs p = p
each-right P (post ∷ ps) qs p = each-right P ps qs p.1

each-if : (P : Post → Type 0) (b : Bool) (ps qs : List Post) → EachPost P ps → EachPost P qs → EachPost P (if b then ps else qs)
each-if P true ps qs p q = p
each-if P false ps qs p q = q

ends-one : (p : Post) → EndsWithCdc (p ∷ [])
ends-one (Write from link key address len) = tt
ends-one (Cdc from link m) = refl
ends-one (Llc from link m) = tt
ends-one (Clc from s link m) = tt

ends-control : (ps qs : List Post) → EachPost IsControl ps → EndsWithCdc qs → EndsWithCdc (ps ++ qs)
ends-control [] qs p q = q
ends-control (Llc from link m ∷ ps) qs p q = ends-control ps qs p.1 q
ends-control (Clc from s link m ∷ ps) qs p q = ends-control ps qs p.1 q
ends-control (Write from link key address len ∷ ps) qs p q = absurd p.0
ends-control (Cdc from link m ∷ ps) qs p q = absurd p.0

ends-if : (b : Bool) (ps qs : List Post) → EndsWithCdc ps → EndsWithCdc qs → EndsWithCdc (if b then ps else qs)
ends-if true ps qs p q = p
ends-if false ps qs p q = q

ends-writes : (a b : Bool) (f g h : Side) (k l m : LinkId) (c d i u v w : ℕ) (y z j : ℕ) (p : Post) → EndsWithCdc ((if a then [] else if b then Write f k c u y ∷ [] else Write g l d v z ∷ Write h m i w j ∷ []) ++ p ∷ [])
ends-writes true b f g h k l m c d i u v w y z j p = ends-one p
ends-writes false true f g h k l m c d i u v w y z j p = ends-one p
ends-writes false false f g h k l m c d i u v w y z j p = ends-one p

-- what a batch is
module _ (size : ℕ) (x : Side) (o : Offered) (past : List Entry) (m : Sent) where
  abbrev key_of : ℕ
  key_of = unwrap_or (last_bound (other x) (rmb_at o.offer.address) m.link past) 0

  abbrev Batch : List Post
  Batch = sent_posts size x (Some o) past m

  abbrev Writes_of : List Post
  Writes_of = writes size x m.link key_of (offered_place o.offer) m.from m.snapshot.told

  batch-each : (P : Post → Type 0) → ((k address len : ℕ) → P (Write x m.link k address len)) → ((message : CdcMessage) → message.token ≡ o.offer.token → P (Cdc x m.link message)) → EachPost P Batch
  batch-each P w c =
      each-if P m.check (Cdc x m.link (validation size o.offer.token m.snapshot) ∷ []) (Writes_of ++ Cdc x m.link (spelled size o.offer.token m.snapshot) ∷ []) (c _ refl, tt)
      (each-both P Writes_of _ (each-if P (m.from == m.snapshot.told) [] _ tt (each-if P (nat_le (m.from % size + (m.snapshot.told - m.from)) size) _ _ (w _ _ _, tt) (w _ _ _, (w _ _ _, tt)))) (c _ refl, tt))

  last-on-by : (b : Bool) (ws : List Post) (p q : CdcMessage) → EachPost (IsCdcOn the_link) (if b then Cdc x m.link p ∷ [] else ws ++ Cdc x m.link q ∷ []) → m.link ≡ the_link
  last-on-by true ws p q e = e.0
  last-on-by false ws p q e = let l = each-right (IsCdcOn the_link) ws (Cdc x m.link q ∷ []) e in l.0

  batch-on : EachPost (IsCdcOn the_link) Batch → m.link ≡ the_link
  batch-on e = last-on-by m.check Writes_of (validation size o.offer.token m.snapshot) (spelled size o.offer.token m.snapshot) e

  pub batch-ends : EndsWithCdc Batch
  batch-ends = ends-if m.check _ _ refl (ends-writes (m.from == m.snapshot.told) (nat_le (m.from % size + (m.snapshot.told - m.from)) size) x x x m.link m.link m.link key_of key_of key_of _ _ _ _ _ _ (Cdc x m.link (spelled size o.offer.token m.snapshot)))

-- which side rests with an event
sides-by : (y z : Side) (b : Bool) → same_side y z ≡ b → (y ≡ z) ⊎ (same_side y z ≡ false)
sides-by A A b e = inl refl
sides-by B B b e = inl refl
sides-by A B b e = inr refl
sides-by B A b e = inr refl

rests-as : (setup : Setup) (payload : List ℕ) (past : List Entry) (y : Side) (t : ℕ) (event : Event) (reply : Reply) → Fits setup (length payload) event → same_side y (acting_side event) ≡ false → EachItem (rests y) (deeds payload t event reply past)
rests-as setup payload past y t (Open s) reply b e = tt
rests-as setup payload past y t (ClcEvent s dir) reply b e = tt
rests-as setup payload past y t (WriteEvent end at len) reply b e = call-items (rests y) end (Writes (take len (drop at payload))) t past (ap (λ c. not c) e)
rests-as setup payload past y t (Read end len) reply b e = call-items (rests y) end (Reads len) t past (ap (λ c. not c) e)
rests-as setup payload past y t (Deliver slot d) reply b e = own-items (rests y) (Lands d) d t (landed_at slot d reply past) past refl
rests-as setup payload past y t (Complete slot d) reply b e = own-items (rests y) (Completes d) d t (completed_at reply) past (ap (λ c. not c) e)
rests-as setup payload past y t _ reply b e = absurd b

-- LLC messages
abbrev IsLlcOn : LinkId → Post → Type 0
IsLlcOn link (Llc from l message) = l ≡ link
IsLlcOn link _ = Unit {0}

tail-none : (o : Option Post) (ps : List Post) → cons_option o ps ≡ [] → ps ≡ []
tail-none None ps e = e
tail-none (Some p) ps e = absurd (true≢false (ap (λ qs. is_some (head qs)) e))

rest-none : (b : Bool) (c : Placed) (cs : List Placed) → filter_map llc_in (cond b (c ∷ cs) cs) ≡ [] → filter_map llc_in cs ≡ []
rest-none true c cs e = tail-none (llc_in c) (filter_map llc_in cs) e
rest-none false c cs e = e

right-none : (ps qs : List Post) → ps ++ qs ≡ [] → qs ≡ []
right-none [] qs e = e
right-none (p ∷ ps) qs e = absurd (true≢false (ap (λ rs. is_some (head rs)) e))

llc-there : (from : Side) (l : LinkId) → (same_side from from && same_link l l) ≡ true
llc-there from l = ap (λ b. b && same_link l l) (same-self from) ∙ link-self l

llc-on : (entry first : ℕ) (ps : List Post) → ((link : LinkId) (x : Side) → same_link link the_link ≡ false → posted_llc link x entry first ps ≡ []) → EachPost (IsLlcOn the_link) ps
llc-on entry first [] f = tt
llc-on entry first (p ∷ ps) f = (one p refl, llc-on entry (first + 1) ps (λ link x e. rest-none (is_on link x p) (record { at = record { entry = entry; post = first }; post = p }) (filter (λ c. is_on link x c.post) (numbered entry (first + 1) ps)) (f link x e)))
  where
    one : (q : Post) → p ≡ q → IsLlcOn the_link q
    one (Write from l key address len) g = tt
    one (Cdc from l m) g = tt
    one (Clc from s l m) g = tt
    one (Llc from l m) g = test (same_link l the_link) refl
      where
        test : (b : Bool) → same_link l the_link ≡ b → l ≡ the_link
        test true h = link-is l the_link h
        test false h =
            let c : Placed = record { at = record { entry = entry; post = first }; post = p } in
            let rest : List Placed = filter (λ d. is_on l from d.post) (numbered entry (first + 1) ps) in
            let is : is_on l from p ≡ true = ap (λ r. is_on l from r) g ∙ llc-there from l in
            let some : filter_map llc_in (c ∷ rest) ≡ [] = sym (ap (λ b. filter_map llc_in (cond b (c ∷ rest) rest)) is) ∙ f l from h in
            absurd (true≢false (ap (λ (o : Option Post). is_some (head (cons_option o (filter_map llc_in rest)))) (sym (ap (λ r. llc_of r) g)) ∙ ap (λ qs. is_some (head qs)) some))

-- both facts of a post
control-sent : (sockets : ℕ) (y : Side) (ps : List Post) → EachPost IsControl ps → EachPost (IsFrom sockets y) ps → EachPost (IsLlcOn the_link) ps → EachPost (IsSentBy sockets y) ps
control-sent sockets y [] c f l = tt
control-sent sockets y (Llc from link m ∷ ps) c f l = ((f.0, l.0), control-sent sockets y ps c.1 f.1 l.1)
control-sent sockets y (Clc from s link m ∷ ps) c f l = (f.0, control-sent sockets y ps c.1 f.1 l.1)
control-sent sockets y (Write from link key address len ∷ ps) c f l = absurd c.0
control-sent sockets y (Cdc from link m ∷ ps) c f l = absurd c.0

-- the posts of an entry
pub record ArePosts (setup : Setup) (e : Entry) : Type 0 where
  pub from : EachPost (IsSentBy setup.sockets (acting_side e.event)) e.posts
  pub last : EndsWithCdc e.posts
  pub few : length e.posts ≤ 6

module _ (setup : Setup) (one : IsOneLink setup) (payload : List ℕ) (e : Entry) (past : List Entry) (n : ℕ) (p : IsPlayed setup payload (e ∷ past) n) where
  abbrev D : Entry
  D = draft setup payload past p.0 e.event

  abbrev M : List Post
  M = connection_posts setup payload D past

  made : IsMade setup payload past p.0 e
  made = p.1

  offers : HasOffers setup past
  offers = has-offers setup one payload past p.0 p.3

  gives : GivesItems setup payload p.0 e past
  gives = gives-items setup one payload e past n p

  -- the one end that posts is at the acting side
  pub of-acting : (q : PostsOne setup payload D past) → q.x ≡ acting_side e.event
  of-acting q = by (sides-by q.x (acting_side e.event) (same_side q.x (acting_side e.event)) refl)
    where
      by : (q.x ≡ acting_side e.event) ⊎ (same_side q.x (acting_side e.event) ≡ false) → q.x ≡ acting_side e.event
      by (inl f) = f
      by (inr f) =
          let w = played setup one payload past p.0 p.3 in
          let world = w.world in
          let r : EachItem (rests q.x) (deeds payload q.s e.event e.reply past) = rests-as setup payload past q.x q.s e.event e.reply made.built f in
          let none : given setup payload D past q.x q.s ≡ [] = given-none setup payload e past p.0 p.0 made p.3 offers (only-link setup w.stage past world.link) gives.goes_on (shaken setup one payload past p.0 p.3) gives.calm q.x q.s r in
          let some : given setup payload D past q.x q.s ≡ q.sent ∷ [] = subst (λ g. posts_of (terms_of setup) q.x (items payload g q.s D past) (part payload g q.s past) ≡ q.sent ∷ []) (sym (grouped setup past offers (other q.x) q.s q.offer q.offered_is)) q.sent_is in
          absurd (true≢false (ap (λ (ms : List Sent). is_some (head ms)) (sym some ∙ none)))

  all-on : EachPost (IsCdcOn the_link) M
  all-on =
      let w = played setup one payload past p.0 p.3 in
      let world = w.world in
      each-right (IsCdcOn the_link) D.posts M (subst (λ ps. EachPost (IsCdcOn the_link) ps) made.posts (posts-on setup payload e past p.0 p.0 made p.3 offers (only-link setup w.stage past world.link) gives.goes_on (shaken setup one payload past p.0 p.3)))

  pipes-sent : PostsFew setup payload D past → EachPost (IsSentBy setup.sockets (acting_side e.event)) M
  pipes-sent (inl f) = subst (λ ps. EachPost (IsSentBy setup.sockets (acting_side e.event)) ps) (sym f) tt
  pipes-sent (inr q) =
      let on : (q.sent).link ≡ the_link = batch-on (element_size setup) q.x q.offer (D ∷ past) q.sent (subst (λ ps. EachPost (IsCdcOn the_link) ps) q.posts_are all-on) in
      let from : q.x ≡ acting_side e.event = of-acting q in
      subst (λ ps. EachPost (IsSentBy setup.sockets (acting_side e.event)) ps) (sym q.posts_are)
      (batch-each (element_size setup) q.x q.offer (D ∷ past) q.sent (IsSentBy setup.sockets (acting_side e.event)) (λ k a l. (from, on)) (λ m t. (from, on)))

  pipes-end : PostsFew setup payload D past → EndsWithCdc M
  pipes-end (inl f) = subst (λ ps. EndsWithCdc ps) (sym f) tt
  pipes-end (inr q) = subst (λ ps. EndsWithCdc ps) (sym q.posts_are) (batch-ends (element_size setup) q.x q.offer (D ∷ past) q.sent)

  pipes-few : PostsFew setup payload D past → length M ≤ 3
  pipes-few (inl f) = subst (λ ps. length ps ≤ 3) (sym f) (omega arith)
  pipes-few (inr q) = q.few

  llc-new : (link : LinkId) (x : Side) → same_link link the_link ≡ false → posted_llc link x (next_number past) 1 e.posts ≡ []
  llc-new link x f =
      let w = played setup one payload (e ∷ past) n p in
      let world = w.world in
      let at = world.link in
      right-none (filter_map llc_in (drop (leaving link x e past) (unlanded link x past))) (posted_llc link x (next_number past) 1 e.posts)
      (sym (filter_map-append llc_in (drop (leaving link x e past) (unlanded link x past)) (filter (λ c. is_on link x c.post) (numbered (next_number past) 1 e.posts))) ∙ at.elsewhere link x f)

  few-asked : AreFew setup.sockets (acting_side e.event) D.posts
  few-asked = let w = played setup one payload past p.0 p.3 in asked-few setup payload w.stage past w.world e.event D.reply made.built

  control : EachPost IsControl D.posts
  control = asked-control setup payload past e.event D.reply made.built

  batch : PostsFew setup payload D past
  batch = one-batch setup one payload e past n p

  -- all posts of an entry
  pub posts-from : ArePosts setup e
  posts-from = let a = few-asked in record {
    from = subst (λ ps. EachPost (IsSentBy setup.sockets (acting_side e.event)) ps) (sym made.posts)
        (each-both (IsSentBy setup.sockets (acting_side e.event)) D.posts M
        (control-sent setup.sockets (acting_side e.event) D.posts control a.from (each-left (IsLlcOn the_link) D.posts M (subst (λ ps. EachPost (IsLlcOn the_link) ps) made.posts (llc-on (next_number past) 1 e.posts llc-new))))
        (pipes-sent batch));
    last = subst (λ ps. EndsWithCdc ps) (sym made.posts) (ends-control D.posts M control (pipes-end batch));
    few = subst (λ ps. length ps ≤ 6) (sym made.posts) (let l = length-append D.posts M in let f = a.few in let m = pipes-few batch in omega (arith, l, f, m));
  }

  -- something holds of each of them
  module _ (P : Post → Type 0) (of_clc : (from : Side) (s : ℕ) (link : Option LinkId) (m : ClcMessage) → s < setup.sockets → P (Clc from s link m)) (of_llc : (from : Side) (link : LinkId) (m : LlcMessage) → P (Llc from link m))
      (of_write : (from : Side) (link : LinkId) (key address len : ℕ) → P (Write from link key address len))
      (of_cdc : (q : PostsOne setup payload D past) (m : CdcMessage) → m.token ≡ (q.offer).offer.token → P (Cdc q.x (q.sent).link m)) where
    of-control : (ps : List Post) → EachPost IsControl ps → EachPost (IsFrom setup.sockets (acting_side e.event)) ps → EachPost P ps
    of-control [] c f = tt
    of-control (Llc from link m ∷ ps) c f = (of_llc from link m, of-control ps c.1 f.1)
    of-control (Clc from s link m ∷ ps) c f = let g = f.0 in (of_clc from s link m g.1, of-control ps c.1 f.1)
    of-control (Write from link k address len ∷ ps) c f = absurd c.0
    of-control (Cdc from link m ∷ ps) c f = absurd c.0

    of-pipes : PostsFew setup payload D past → EachPost P M
    of-pipes (inl f) = subst (λ ps. EachPost P ps) (sym f) tt
    of-pipes (inr q) = subst (λ ps. EachPost P ps) (sym q.posts_are) (batch-each (element_size setup) q.x q.offer (D ∷ past) q.sent P (λ k a l. of_write q.x (q.sent).link k a l) (of_cdc q))

    pub each-posted : EachPost P e.posts
    each-posted = let a = few-asked in subst (λ ps. EachPost P ps) (sym made.posts) (each-both P D.posts M (of-control D.posts control a.from) (of-pipes batch))
