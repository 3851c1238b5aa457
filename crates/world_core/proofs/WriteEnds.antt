-- A write at the front of a wire: its sender has its bytes, which stand in the one RMB of its receiver as it lands.
use Rattle.std.proofs.Common.{true≢false, ◌≡◌, ◌∙◌, ◌==◌, ◌&&◌, ◌⊎◌, inl, inr, ℕ, ◌+◌, ◌%◌, ◌≤◌, Bool, true, false, if◌then◌else◌, List, [], ◌∷◌, ◌++◌, length, take, drop, map, filter_map, zero, suc, refl, ap, sym, subst, arith, eq-eqb, length-append}
use Rattle.std.specs.Prelude.{Option, Some, is_some, option_map, option_and_then, unwrap_or}
use Rattle.std.specs.List.{cons_option}
use Rattle.smc_num.specs.declared.Side.{Side}
use Rattle.smc_num.specs.declared.Side.TheVariants.{A, B}
use Rattle.smc_num.specs.declared.LinkId.{LinkId}
use Rattle.smc_num.specs.Names.{other, same_side, same_link, head}
use Rattle.smc_num.specs.Keys.{rmb_bound}
use Rattle.smc_num.specs.Places.{address_of}
use Rattle.cdc_wire.specs.declared.CdcMessage.{CdcMessage}
use Rattle.clc_wire.specs.declared.offer.Offer.{Offer}
use Rattle.llc_wire.specs.declared.LlcMessage.{LlcMessage}
use Rattle.rmb_region.specs.Regions.{Buffer, IsInside, lands}
use Rattle.pipe_model.specs.declared.setup.Setup.{Setup}
use Rattle.pipe_model.specs.declared.sent.Sent.{Sent}
use Rattle.pipe_model.specs.declared.entry.Entry.{Entry}
use Rattle.pipe_model.specs.declared.post.Post.{Post}
use Rattle.pipe_model.specs.declared.post.Post.TheVariants.{Write, Cdc, Llc, Clc}
use Rattle.pipe_model.specs.declared.post.Placed.{Placed}
use Rattle.pipe_model.specs.Words.{element_size}
use Rattle.pipe_model.specs.History.{Offered, offered}
use Rattle.pipe_model.specs.Wires.{is_on, unlanded}
use Rattle.pipe_model.specs.Ends.{Half, to_land}
use Rattle.pipe_model.specs.Parts.{IsCounted}
use Rattle.pipe_model.specs.Pipe.{half}
use Rattle.pipe_model.specs.Connections.{is_up, part}
use Rattle.pipe_model.specs.Lending.{Lending, lends_by, terms_of, pipe_of, record_of}
use Rattle.pipe_model.specs.Keys.{Keys, keys_of}
use Rattle.pipe_model.specs.Home.{following_cdc}
use Rattle.pipe_model.specs.Posts.{offered_place}
use Rattle.pipe_model.proofs.Pipes.{is-counted}
use Rattle.rc_link.specs.declared.InFlight.{InFlight}
use Rattle.rc_link.specs.Wire.{Queues, placed, next_cdc}
use Rattle.conn_end.specs.Kept.{Kept, Represents as EndRepresents}
use Rattle.side_core.specs.Records.{conn_at, aimer}
use Rattle.side_core.specs.Manager.{Manager, Represents}
use Rattle.side_core.specs.Desk.{Desk}
use Rattle.side_core.specs.Acting.{MayWrite, bytes_land, buffer_of as buffer_among}
use Rattle.side_core.specs.Comings.{IsGoing, IsGoingTo, IsGoingAt}
use Rattle.side_core.specs.Landing.{MayGoOut}
use Rattle.world_core.specs.Played.{IsPlayed}
use Rattle.world_core.specs.OneLink.{the_link, the_key, the_keys}
use Rattle.world_core.specs.Sockets.{on_link}
use Rattle.world_core.specs.Wired.{cdc_under, if_meant}
use Rattle.world_core.specs.WireSteps.{EachPost, EachPlaced, landing_now}
use Rattle.world_core.specs.Directed.{GoesHome, IsDirected, IsUnderWay}
use Rattle.world_core.specs.Agreement.{IsElse}
use Rattle.world_core.specs.Landed.{carried, bytes_of, written_for, first_lands, peer_buffer, buffer_of, waiting_posts, Carries, Reaches, IsRmb}
use Rattle.world_core.specs.Hosts.{IsWorldSet, IsWireAfter, half_of}
use Rattle.world_core.specs.Managers.{manager_of, HasLendings}
use Rattle.world_core.proofs.Heads.{unlanded-there, gave, Gave}
use Rattle.world_core.proofs.Own.{grouped}
use Rattle.world_core.proofs.OnWay.{carries-up, Tells, tells-next}
use Rattle.world_core.proofs.Standing.{element-of, bytes-are}
use Rattle.world_core.proofs.Stood.{lies-inside, slice-length}
use Rattle.world_core.proofs.TokensOnWay.{bytes-reach, is-rmb}
use Rattle.world_core.proofs.StandingLendings.{stays-lent}
use Rattle.world_core.proofs.NeverOver.{peer-not-fallen}
use Rattle.world_core.proofs.SentBatches.{offered-keys, under-way}
use Rattle.world_core.proofs.PlayedWorlds.{played}
use Rattle.world_core.proofs.Handshaken.{shaken, has-offers}
use Rattle.world_core.proofs.Agreement.{agrees}
use Rattle.world_core.proofs.Parts.{part-open}
use Rattle.world_core.proofs.Pipes.{has-pipe}
use Rattle.world_core.proofs.GoingUp.{completed-told}
use Rattle.world_core.proofs.EndRecords.{UpConn, up-conn}
use Rattle.world_core.proofs.Plain.{and-left, same-is}

-- the posts of placed ones
posts-each : (P : Post → Type 0) (cs : List Placed) → EachPlaced (λ c. P c.post) cs → EachPost P (map (λ c. c.post) cs)
posts-each P [] e = tt
posts-each P (c ∷ cs) e = (e.0, posts-each P cs e.1)

-- the next CDC message on a side's wire is its own
own-next : (x : Side) (ps : List Post) (m : CdcMessage) → EachPost (λ p. is_on the_link x p ≡ true) ps → next_cdc ps ≡ Some m → filter_map (cdc_under x m.token) ps ≡ [] → ⊥
own-next x [] m on e none = absurd (true≢false (sym (ap (λ (q : Option CdcMessage). is_some q) e)))
own-next x (Write from link key address len ∷ ps) m on e none = own-next x ps m on.1 e none
own-next x (Llc from link k ∷ ps) m on e none = own-next x ps m on.1 e none
own-next x (Clc from s link k ∷ ps) m on e none = own-next x ps m on.1 e none
own-next x (Cdc from link k ∷ ps) m on e none =
    let side : same_side x from ≡ true = and-left (same_side x from) (same_link the_link link) on.0 in
    let token : (m.token == k.token) ≡ true = eq-eqb m.token k.token (sym (ap (λ (q : Option CdcMessage). unwrap_or (option_map (λ (r : CdcMessage). r.token) q) 0) e)) in
    let found : if_meant (same_side x from && (m.token == k.token)) k ≡ Some k = ap (λ b. if_meant (b && (m.token == k.token)) k) side ∙ ap (λ b. if_meant b k) token in
    true≢false (ap (λ (o : Option CdcMessage). is_some (head (cons_option o (filter_map (cdc_under x m.token) ps)))) (sym found) ∙ ap (λ (ms : List CdcMessage). is_some (head ms)) none)

bound-to-one : (y : Side) → rmb_bound (the_key y).key the_link (the_keys y).keys ≡ Some 1
bound-to-one A = refl
bound-to-one B = refl

nothing-sent : (i : ℕ) (ms : List Sent) (m : Sent) (rest : List Sent) → ms ≡ [] → drop i ms ≡ m ∷ rest → ⊥
nothing-sent i ms m rest e f = none i (sym (ap (λ ks. head (drop i ks)) e) ∙ ap (λ ks. head ks) f)
  where
    none : (j : ℕ) → head (drop j []) ≡ Some m → ⊥
    none zero g = true≢false (sym (ap (λ (q : Option Sent). is_some q) g))
    none (suc j) g = true≢false (sym (ap (λ (q : Option Sent). is_some q) g))

-- the buffer of the peer
pub buffer-is : (setup : Setup) (payload : List ℕ) (x : Side) (past : List Entry) → buffer_of setup payload (other x) 1 past ≡ peer_buffer setup payload x 1 past
buffer-is setup payload A past = refl
buffer-is setup payload B past = refl

module _ (setup : Setup) (payload : List ℕ) (x : Side) (e : Entry) (past : List Entry) where
  -- nothing of the side lands
  pub buffer-stays : landing_now the_link x e past ≡ 0 → buffer_of setup payload (other x) 1 (e ∷ past) ≡ buffer_of setup payload (other x) 1 past
  buffer-stays l = buffer-is setup payload x (e ∷ past)
      ∙ (ap (λ k. if k == 0 then peer_buffer setup payload x 1 past else first_lands setup payload x past (waiting_posts x past) (peer_buffer setup payload x 1 past)) l ∙ sym (buffer-is setup payload x past))

  -- its first post lands
  buffer-first : landing_now the_link x e past ≡ 1 → (ps : List Post) → waiting_posts x past ≡ ps → buffer_of setup payload (other x) 1 (e ∷ past) ≡ first_lands setup payload x past ps (buffer_of setup payload (other x) 1 past)
  buffer-first l ps w = buffer-is setup payload x (e ∷ past)
      ∙ (ap (λ k. if k == 0 then peer_buffer setup payload x 1 past else first_lands setup payload x past (waiting_posts x past) (peer_buffer setup payload x 1 past)) l
      ∙ (ap (λ qs. first_lands setup payload x past qs (peer_buffer setup payload x 1 past)) w ∙ ap (λ b. first_lands setup payload x past ps b) (sym (buffer-is setup payload x past))))

  -- which is a message
  pub buffer-stays-cdc : landing_now the_link x e past ≡ 1 → (from : Side) (link : LinkId) (m : CdcMessage) (rest : List Post) → waiting_posts x past ≡ Cdc from link m ∷ rest → buffer_of setup payload (other x) 1 (e ∷ past) ≡ buffer_of setup payload (other x) 1 past
  buffer-stays-cdc l from link m rest w = buffer-first l (Cdc from link m ∷ rest) w

  pub buffer-stays-llc : landing_now the_link x e past ≡ 1 → (from : Side) (link : LinkId) (m : LlcMessage) (rest : List Post) → waiting_posts x past ≡ Llc from link m ∷ rest → buffer_of setup payload (other x) 1 (e ∷ past) ≡ buffer_of setup payload (other x) 1 past
  buffer-stays-llc l from link m rest w = buffer-first l (Llc from link m ∷ rest) w

-- the posts on a wire are those of the history
pub wire-posts : (setup : Setup) (payload : List ℕ) (x : Side) (past : List Entry) (w : Queues) → IsWireAfter setup payload x past w → waiting_posts x past ≡ map (λ (d : InFlight). d.post) w.waiting
wire-posts setup payload x past w wire = ap (λ cs. map (λ (c : Placed). c.post) cs) (sym wire.waiting) ∙ posts-of w.waiting
  where
    posts-of : (cs : List InFlight) → map (λ (c : Placed). c.post) (map placed cs) ≡ map (λ (d : InFlight). d.post) cs
    posts-of [] = refl
    posts-of (c ∷ cs) = ap (λ ps. c.post ∷ ps) (posts-of cs)

module _ (setup : Setup) (payload : List ℕ) (set : IsWorldSet setup payload) (past : List Entry) (n : ℕ) (p : IsPlayed setup payload past n) (x : Side) where
  abbrev Size : ℕ
  Size = element_size setup

  -- what is known of a write that lands next: the message behind it, the connection whose token that has, and where its bytes begin
  record Owned (link : LinkId) (key address len : ℕ) (rest : List Post) : Type 0 where
    pub m : CdcMessage
    pub next : next_cdc rest ≡ Some m
    pub s : ℕ
    pub o : Offered
    pub offered_is : offered (other x) s past ≡ Some o
    pub token : m.token ≡ o.offer.token
    pub up : is_up x s past ≡ true
    pub on : link ≡ the_link
    pub key_is : key ≡ (the_key (other x)).key
    pub at : ℕ
    pub address_is : address ≡ address_of Size (offered_place o.offer) at
    pub fits : at % Size + len ≤ Size
    pub from : (half_of setup payload x s past).fin.told ≤ at
    pub to : at + len ≤ length (half_of setup payload x s past).out
    pub bytes : bytes_of (half_of setup payload x s past) len rest ≡ take len (drop at (half_of setup payload x s past).out)

  some-message : (a b : CdcMessage) → Some a ≡ Some b → b.token ≡ a.token
  some-message a b e = sym (ap (λ (q : Option CdcMessage). unwrap_or (option_map (λ (r : CdcMessage). r.token) q) 0) e)

  -- by the connection whose token the message has
  owned-by : (from : Side) (link : LinkId) (key address len : ℕ) (rest : List Post) → waiting_posts x past ≡ Write from link key address len ∷ rest → link ≡ the_link → key ≡ (the_key (other x)).key → (m : CdcMessage) → next_cdc rest ≡ Some m
      → (s : ℕ) (o : Offered) → offered (other x) s past ≡ Some o → m.token ≡ o.offer.token → Owned link key address len rest
  owned-by from link key address len rest w on key_is m next s o f token =
      let c = subst (λ ps. Carries Size x (offered_place o.offer) o.offer.token reached.reach ps (to_land H) H.last.told) w reached.carries in by c.0 c.1 c.2
    where
      H : Half
      H = half_of setup payload x s past

      reached : Reaches setup payload x s o past
      reached = bytes-reach setup set.one payload past n p x s o f

      by : (k : CdcMessage) → next_cdc rest ≡ Some k →
          (((o.offer.token == k.token) ≡ true) × (address ≡ address_of Size (offered_place o.offer) reached.reach) × (reached.reach % Size + len ≤ Size) × Carries Size x (offered_place o.offer) o.offer.token (reached.reach + len) rest (to_land H) H.last.told)
          ⊎ (((o.offer.token == k.token) ≡ false) × Carries Size x (offered_place o.offer) o.offer.token reached.reach rest (to_land H) H.last.told) → Owned link key address len rest
      by k j (inr c) = absurd (true≢false (sym (eq-eqb o.offer.token k.token (sym token ∙ sym (some-message m k (sym next ∙ j)))) ∙ c.0))
      by k j (inl c) =
          let r = reached in
          let h = shaken setup set.one payload past n p in
          let a = agrees setup payload past n p h in
          let can = a.part_can_be s in
          let tells : Tells Size x (offered_place o.offer) o.offer.token (r.reach + len + carried rest) (to_land H) = tells-next Size x (offered_place o.offer) o.offer.token (r.reach + len) H.last.told rest (to_land H) k j c.0 c.3 in
          let more = carries-up Size x (offered_place o.offer) o.offer.token (r.reach + len) H.last.told rest (to_land H) c.3 in
          let counts : IsCounted Size H (half (other x) (pipe_of setup payload 1 s past)) = is-counted (terms_of setup) x (part payload 1 s past) can.feasible in
          let fin = completed-told (terms_of setup) x (part payload 1 s past) (part-open setup payload 1 s past n p h) can.feasible can.whole in
          let told = r.told in
          record {
            m = m;
            next = next;
            s = s;
            o = o;
            offered_is = f;
            token = token;
            up = sender-up (is_up x s past) refl tells.first tells.rest tells.is;
            on = on;
            key_is = key_is;
            at = r.reach;
            address_is = c.1;
            fits = c.2;
            from = omega (arith, fin, told);
            to = omega (arith, more, counts.told);
            bytes = bytes-are setup set.one payload x H r.reach len rest (offered_place o.offer) o.offer.token tells;
          }
        where
          sender-up : (u : Bool) → is_up x s past ≡ u → (m : Sent) (ms : List Sent) → to_land H ≡ m ∷ ms → is_up x s past ≡ true
          sender-up true g m ms i = g
          sender-up false g m ms i =
              let q = has-pipe setup payload s past n p (shaken setup set.one payload past n p) in
              let none : H.sent ≡ [] = subst (λ g. (half x (pipe_of setup payload g s past)).sent ≡ []) (grouped setup past (has-offers setup set.one payload past n p) (other x) s o f) (q.idle x g) in
              absurd (nothing-sent H.landed H.sent m ms none i)

  -- the write that lands next
  owned : (c : Placed) (rest : List Placed) (from : Side) (link : LinkId) (key address len : ℕ) → unlanded the_link x past ≡ c ∷ rest → c.post ≡ Write from link key address len → Owned link key address len (map (λ (d : Placed). d.post) rest)
  owned c rest from link key address len q e =
      let there = subst (λ cs. EachPlaced (λ c. is_on the_link x c.post ≡ true) cs) q (unlanded-there the_link x past) in
      let way = subst (λ cs. EachPlaced (IsUnderWay setup past) cs) q (under-way setup set.one payload past n p x) in
      let first = way.0 in
      let d : IsDirected setup from link key address len (following_cdc c.at past) past = subst (λ post. GoesHome setup (following_cdc c.at past) past post) e first.home in
      let side : from ≡ x = sym (same-is x from (and-left (same_side x from) (same_link the_link link) (ap (λ post. is_on the_link x post) (sym e) ∙ there.0))) in
      let w : waiting_posts x past ≡ Write from link key address len ∷ Rest = ap (λ cs. map (λ (d : Placed). d.post) cs) q ∙ ap (λ post. post ∷ Rest) e in
      let reached : Reaches setup payload x d.s d.offer past = bytes-reach setup set.one payload past n p x d.s d.offer (ap (λ y. offered (other y) d.s past) (sym side) ∙ d.offered_is) in
      let carries = subst (λ ps. Carries Size x (offered_place d.offer.offer) d.offer.offer.token reached.reach ps (to_land (half_of setup payload x d.s past)) (half_of setup payload x d.s past).last.told) w reached.carries in
      by w d.on (d.key_is ∙ ap (λ y. (the_key (other y)).key) side) (posts-each (λ post. is_on the_link x post ≡ true) rest there.1) carries.0 carries.1 (gave setup (other x) (carries.0).token past (has-offers setup set.one payload past n p))
    where
      Rest : List Post
      Rest = map (λ (d : Placed). d.post) rest

      by : waiting_posts x past ≡ Write from link key address len ∷ Rest → link ≡ the_link → key ≡ (the_key (other x)).key → EachPost (λ post. is_on the_link x post ≡ true) Rest → (m : CdcMessage) → next_cdc Rest ≡ Some m
          → Gave (other x) m.token past ⊎ ((s : ℕ) → IsElse m.token (offered (other x) s past)) → Owned link key address len Rest
      by w on key_is own m next (inl g) = let h = g.1 in let i = h.1 in owned-by from link key address len Rest w on key_is m next g.0 h.0 i.0 i.1
      by w on key_is own m next (inr f) =
          let a = agrees setup payload past n p (shaken setup set.one payload past n p) in
          let strange = a.strange x in
          let none : filter_map (cdc_under x m.token) (waiting_posts x past) ≡ [] = strange.landing m.token f in
          absurd (own-next x Rest m own next (ap (λ ps. filter_map (cdc_under x m.token) ps) (sym w) ∙ none))

  module _ (lendings_are : HasLendings setup payload past) (regions : List Buffer)
      (u : Manager Kept) (sends : Represents u (manager_of setup payload regions x past)) (v : Manager Kept) (takes : Represents v (manager_of setup payload (buffer_of setup payload (other x) 1 past ∷ []) (other x) past)) where
    -- the bytes of a write, from a place in the stream of its end
    abbrev bytes_from : ℕ → ℕ → ℕ → List ℕ
    bytes_from s at len = take len (drop at (half_of setup payload x s past).out)

    pub record Writing (link : LinkId) (key address len : ℕ) (rest : List Post) : Type 0 where
      pub m : CdcMessage
      pub next : next_cdc rest ≡ Some m
      pub s : ℕ
      pub at : ℕ
      pub goes : MayGoOut m.token address len u
      pub aimed : aimer m.token u.records ≡ Some s
      pub going : IsGoingAt u.records.terms.size (conn_at s u.records) address len (half_of setup payload x s past) at
      pub long : length (bytes_from s at len) ≡ len
      pub writes : MayWrite link key address len v
      pub writes_parts : (front back : List ℕ) → front ++ back ≡ bytes_from s at len → MayWrite link key address (length front + length back) v
      pub bound : rmb_bound key link (manager_of setup payload (buffer_of setup payload (other x) 1 past ∷ []) (other x) past).desk.keys ≡ Some 1
      pub lands : (e : Entry) → landing_now the_link x e past ≡ 1 → bytes_land 1 address (bytes_from s at len) (manager_of setup payload (buffer_of setup payload (other x) 1 past ∷ []) (other x) past)
          ≡ manager_of setup payload (buffer_of setup payload (other x) 1 (e ∷ past) ∷ []) (other x) past

    writing-by : (c : Placed) (rest : List Placed) (from : Side) (link : LinkId) (key address len : ℕ) → unlanded the_link x past ≡ c ∷ rest → c.post ≡ Write from link key address len → Owned link key address len (map (λ (d : Placed). d.post) rest) → Writing link key address len (map (λ (d : Placed). d.post) rest)
    writing-by c rest from link key address len q e ow = record {
      m = ow.m;
      next = ow.next;
      s = ow.s;
      at = ow.at;
      goes = record { socket = ow.s; aimed = aimed; goes = record { end = H; first = ow.at; going = going } };
      aimed = aimed;
      going = going;
      long = long;
      writes = may len refl;
      writes_parts = λ front back f. may (length front + length back) (sym (length-append front back) ∙ (ap (λ (bs : List ℕ). length bs) f ∙ long));
      bound = bound;
      lands = λ d l. ap (λ b. manager_of setup payload (b ∷ []) (other x) past) (sym (lands-as d l));
    }
      where
        H : Half
        H = half_of setup payload x ow.s past

        Rest : List Post
        Rest = map (λ (d : Placed). d.post) rest

        Buf : Buffer
        Buf = buffer_of setup payload (other x) 1 past

        conn : UpConn setup payload regions x past u sends set.one n p lendings_are ow.s
        conn = up-conn setup payload regions x past u sends set.one n p lendings_are ow.s ow.up

        same : (a b : Offered) → Some a ≡ Some b → a.offer ≡ b.offer
        same a b e = ap (λ (q : Option Offered). unwrap_or (option_map (λ (r : Offered). r.offer) q) a.offer) e

        offer_is : conn.theirs.offer ≡ ow.o.offer
        offer_is = same conn.theirs ow.o (sym conn.theirs_is ∙ ow.offered_is)

        aimed : aimer ow.m.token u.records ≡ Some ow.s
        aimed = ap (λ t. aimer t u.records) (ow.token ∙ ap (λ (o : Offer). o.token) (sym offer_is)) ∙ conn.aimed

        peer : conn.kept.kept.route.peer ≡ Some ow.o.offer
        peer = let k = conn.kept in let st = k.stands in ap (λ r. r.peer) st.route ∙ (conn.peer ∙ ap (λ (o : Offer). Some o) offer_is)

        stands : EndRepresents conn.kept.kept.end H
        stands = let k = conn.kept in let st = k.stands in
            subst (λ g. EndRepresents k.kept.end (half x (pipe_of setup payload g ow.s past))) (grouped setup past (has-offers setup set.one payload past n p) (other x) ow.s ow.o ow.offered_is) st.end

        size_is : u.records.terms.size ≡ Size
        size_is = let w = sends.works in let r = w.records in ap (λ t. t.size) r.terms

        is-going : IsGoing u.records.terms.size ow.o.offer conn.kept.kept.end address len H ow.at
        is-going = record { stands = stands; address = ow.address_is ∙ ap (λ z. address_of z (offered_place ow.o.offer) ow.at) (sym size_is); from = ow.from; to = ow.to }

        going : IsGoingAt u.records.terms.size (conn_at ow.s u.records) address len H ow.at
        going = let k = conn.kept in
            subst (λ c. IsGoingAt u.records.terms.size c address len H ow.at) (sym k.kept_is)
            (subst (λ o. IsGoingTo u.records.terms.size o k.kept.end address len H ow.at) (sym peer) is-going)

        long : length (bytes_from ow.s ow.at len) ≡ len
        long = slice-length ow.at len H.out ow.to

        inside : IsInside address len Buf
        inside =
            let rmb : IsRmb setup (other x) Buf = is-rmb setup set.one payload past n p (other x) in
            let el = element-of setup set.one payload x past n p Buf rmb ow.s ow.o ow.offered_is in
            subst (λ a. IsInside a len Buf) (sym ow.address_is) (lies-inside Size (offered_place ow.o.offer) Buf ow.at len el ow.fits)

        same-rmb : (offered_place ow.o.offer).rmb ≡ Buf.rmb
        same-rmb =
            let rmb : IsRmb setup (other x) Buf = is-rmb setup set.one payload past n p (other x) in
            let el = element-of setup set.one payload x past n p Buf rmb ow.s ow.o ow.offered_is in
            el.rmb

        bound : rmb_bound key link (keys_of (other x) past).keys ≡ Some 1
        bound = let w = played setup set.one payload past n p in let keys = offered-keys setup w.stage past w.world (other x) ow.s ow.o ow.offered_is in
            ap (λ k. rmb_bound k link (keys_of (other x) past).keys) ow.key_is ∙ (ap (λ l. rmb_bound (the_key (other x)).key l (keys_of (other x) past).keys) ow.on
            ∙ (ap (λ (ks : Keys). rmb_bound (the_key (other x)).key the_link ks.keys) keys ∙ bound-to-one (other x)))

        may : (k : ℕ) → k ≡ len → MayWrite link key address k v
        may k f = let w = takes.works in record {
          rmb = 1;
          bound = ap (λ (d : Desk). rmb_bound key link d.keys) w.desk ∙ bound;
          inside = subst (λ (bs : List Buffer). IsInside address k (buffer_among 1 bs)) (sym takes.regions) (subst (λ j. IsInside address j Buf) (sym f) inside);
        }

        lending : record_of setup payload (other x) ow.m.token past ≡ Some (lends_by ow.s the_link ow.o.offer)
        lending =
            let offers = has-offers setup set.one payload past n p in
            let there : offered (other x) ow.s past ≡ on_link ow.o.offer = ow.offered_is ∙ ap (λ l. let r : Offered = record { link = l; offer = ow.o.offer } in Some r) (offers.link (other x) ow.s ow.o ow.offered_is) in
            let stays = stays-lent setup set.one payload past n p (other x) ow.s ow.o.offer there (peer-not-fallen setup set.one payload past n p x ow.s ow.up) in
            ap (λ t. record_of setup payload (other x) t past) ow.token ∙ stays.1

        lands-as : (d : Entry) → landing_now the_link x d past ≡ 1 → buffer_of setup payload (other x) 1 (d ∷ past) ≡ lands address (bytes_from ow.s ow.at len) Buf
        lands-as d l =
            buffer-first setup payload x d past l (Write from link key address len ∷ Rest) (ap (λ cs. map (λ (d : Placed). d.post) cs) q ∙ ap (λ post. post ∷ Rest) e)
            ∙ (ap (λ (m : Option CdcMessage). written_for setup payload x past address len Rest (option_and_then (λ (m : CdcMessage). record_of setup payload (other x) m.token past) m) Buf) ow.next
            ∙ (ap (λ (k : Option Lending). written_for setup payload x past address len Rest k Buf) lending
            ∙ (ap (λ b. if b then lands address (bytes_of (half x (pipe_of setup payload 1 ow.s past)) len Rest) Buf else Buf) (eq-eqb (offered_place ow.o.offer).rmb Buf.rmb same-rmb) ∙ ap (λ bs. lands address bs Buf) ow.bytes)))

    -- a write at the front of a wire
    pub writing : (w : Queues) → IsWireAfter setup payload x past w → (c : InFlight) (rest : List InFlight) (from : Side) (link : LinkId) (key address len : ℕ) → w.waiting ≡ c ∷ rest → c.post ≡ Write from link key address len
        → Writing link key address len (map (λ (d : InFlight). d.post) rest)
    writing w wire c rest from link key address len q e =
        let queue : unlanded the_link x past ≡ placed c ∷ map placed rest = sym wire.waiting ∙ ap (λ cs. map placed cs) q in
        subst (λ ps. Writing link key address len ps) (posts-of rest)
        (writing-by (placed c) (map placed rest) from link key address len queue e (owned (placed c) (map placed rest) from link key address len queue e))
      where
        posts-of : (cs : List InFlight) → map (λ (c : Placed). c.post) (map placed cs) ≡ map (λ (d : InFlight). d.post) cs
        posts-of [] = refl
        posts-of (c ∷ cs) = ap (λ ps. c.post ∷ ps) (posts-of cs)
