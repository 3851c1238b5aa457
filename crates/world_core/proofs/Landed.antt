-- After each entry the bytes of each end go on standing where its peer reads them.
use Rattle.std.proofs.Common.{true≢false, ◌≡◌, ◌∙◌, ◌==◌, ◌⊎◌, inl, inr, ℕ, ◌+◌, ◌-◌, ◌%◌, ◌≤◌, Bool, true, false, if◌then◌else◌, List, [], ◌∷◌, ◌++◌, zero, suc, length, take, drop, find, filter, refl, ap, sym, subst, ◌&&◌, arith, eqb-true, eq-eqb, length-drop}
use Rattle.smc_num.specs.declared.LinkId.{LinkId}
use Rattle.world_core.proofs.Carrying.{drop-none}
use Rattle.std.proofs.lemmas.Grind.{common_steps}
use Rattle.std.specs.Prelude.{Option, Some, None, is_some, option_and_then}
use Rattle.smc_num.specs.declared.Side.{Side}
use Rattle.smc_num.specs.Names.{other, same_side, head}
use Rattle.smc_num.specs.Places.{Place, same_place, address_of}
use Rattle.cdc_wire.specs.declared.CdcMessage.{CdcMessage}
use Rattle.rmb_region.specs.Regions.{Buffer, lands}
use Rattle.rmb_region.proofs.Bytes.{a_landing_keeps_the_buffer_whole}
use Rattle.pipe_model.specs.declared.setup.Setup.{Setup}
use Rattle.pipe_model.specs.declared.post.Post.{Post}
use Rattle.pipe_model.specs.declared.post.Post.TheVariants.{Write, Cdc, Llc, Clc}
use Rattle.pipe_model.specs.declared.entry.Entry.{Entry}
use Rattle.pipe_model.specs.declared.sent.Sent.{Sent}
use Rattle.pipe_model.specs.Words.{element_size}
use Rattle.pipe_model.specs.History.{Offered, offered, is_cdc}
use Rattle.pipe_model.specs.Wires.{is_on}
use Rattle.pipe_model.specs.Ends.{Half}
use Rattle.pipe_model.specs.Pipe.{Lands, half}
use Rattle.pipe_model.specs.Connections.{is_up, deeds, if_own}
use Rattle.pipe_model.specs.Lending.{Lending, lends_by, lent, record_of, pipe_of}
use Rattle.pipe_model.specs.Posts.{offered_place}
use Rattle.world_core.specs.Played.{IsOneLink, IsPlayed}
use Rattle.world_core.specs.OneLink.{the_link}
use Rattle.world_core.specs.WireSteps.{landing_now, leaving, LandsNow, Way}
use Rattle.rc_link.specs.Wire.{next_cdc}
use Rattle.world_core.specs.Landed.{bytes_of, waiting_posts, first_lands, written_for, peer_buffer, Stand, GoOn, Carries, Reaches, IsRmb}
use Rattle.world_core.proofs.LendingFacts.{played-lendings}
use Rattle.world_core.proofs.NeverOver.{peer-not-fallen}
use Rattle.world_core.proofs.StandingLendings.{stays-lent}
use Rattle.world_core.proofs.Handshaken.{shaken, has-offers}
use Rattle.world_core.proofs.Batched.{Posts, new-unlanded}
use Rattle.world_core.proofs.Stood.{lies-inside, slice-length, stand-more, stand-else}
use Rattle.world_core.proofs.OnWay.{carries-up, tells-next}
use Rattle.world_core.proofs.Moved.{mark, count, starts, finish, moved-stays, moved-lands, moved-passes, moved-completes}
use Rattle.rmb_region.specs.Regions.{IsInside}
use Rattle.world_core.proofs.Standing.{Owned, own-write, bytes-are, element-of, found-apart, tail-of, on-link-is, AllReach}
use Rattle.world_core.proofs.Pipes.{has-pipe}
use Rattle.world_core.proofs.Own.{grouped}
use Rattle.world_core.proofs.Handshaken.{gives-items}
use Rattle.world_core.proofs.Moved.{Moved}

none-first : (m : Sent) (ms rest : List Sent) (i : ℕ) → ms ≡ [] → drop i ms ≡ m ∷ rest → ⊥
none-first m ms rest i e f = nothing i (sym (ap (λ ks. head (drop i ks)) e) ∙ ap (λ ks. head ks) f)
  where
    nothing : (j : ℕ) → head (drop j []) ≡ Some m → ⊥
    nothing zero g = true≢false (sym (ap (λ (q : Option Sent). is_some q) g))
    nothing (suc j) g = true≢false (sym (ap (λ (q : Option Sent). is_some q) g))

module _ (setup : Setup) (one : IsOneLink setup) (payload : List ℕ) (x : Side) where
  abbrev Size : ℕ
  Size = element_size setup

  module _ (e : Entry) (past : List Entry) (n : ℕ) (p : IsPlayed setup payload (e ∷ past) n) (all : AllReach setup one payload x past) (is : IsRmb setup (other x) (peer_buffer setup payload x 1 past)) where
    abbrev Buf : Buffer
    Buf = peer_buffer setup payload x 1 past

    abbrev Waiting : List Post
    Waiting = waiting_posts x past

    abbrev All : List Post
    All = filter (is_on the_link x) e.posts

    posts-by : (k : ℕ) (rest : List Post) → leaving the_link x e past ≡ k → drop k Waiting ≡ rest → waiting_posts x (e ∷ past) ≡ rest ++ All
    posts-by k rest l d = new-unlanded the_link x e past ∙ ap (λ j. drop j Waiting ++ All) l ∙ ap (λ r. r ++ All) d

    buffer-kept : landing_now the_link x e past ≡ 0 → peer_buffer setup payload x 1 (e ∷ past) ≡ Buf
    buffer-kept l = ap (λ k. if k == 0 then Buf else first_lands setup payload x past Waiting Buf) l

    buffer-lands : landing_now the_link x e past ≡ 1 → (ps : List Post) → Waiting ≡ ps → peer_buffer setup payload x 1 (e ∷ past) ≡ first_lands setup payload x past ps Buf
    buffer-lands l ps w = ap (λ k. if k == 0 then Buf else first_lands setup payload x past Waiting Buf) l ∙ ap (λ qs. first_lands setup payload x past qs Buf) w

    -- the buffer stays the RMB
    landed-rmb : (address len : ℕ) (rest : List Post) (token : ℕ) (l : Lending) → Owned setup one payload x past address len rest token l → IsRmb setup (other x) (written_for setup payload x past address len rest (Some l) Buf)
    landed-rmb address len rest token l ow =
        let bytes : List ℕ = bytes_of (half x (pipe_of setup payload l.group l.s past)) len rest in
        let long : length bytes ≡ len = ap (λ bs. length bs) ow.bytes ∙ slice-length ow.at len (half x (pipe_of setup payload 1 l.s past)).out ow.has in
        let o = ow.o in
        let el = element-of setup one payload x past p.0 p.3 Buf is l.s o ow.offered_is in
        let inside : IsInside address (length bytes) Buf = subst (λ k. IsInside address k Buf) (sym long) (subst (λ a. IsInside a len Buf) (sym ow.address_is) (lies-inside Size (offered_place o.offer) Buf ow.at len el ow.fits)) in
        by bytes inside (l.place.rmb == Buf.rmb)
      where
        by : (bytes : List ℕ) → IsInside address (length bytes) Buf → (b : Bool) → IsRmb setup (other x) (if b then lands address bytes Buf else Buf)
        by bytes inside true = record { whole = a_landing_keeps_the_buffer_whole Buf address bytes is.whole inside; rmb = is.rmb; size = is.size; elements = is.elements }
        by bytes inside false = is

    first-rmb : (post : Post) (rest : List Post) → Waiting ≡ post ∷ rest → IsRmb setup (other x) (first_lands setup payload x past (post ∷ rest) Buf)
    first-rmb (Cdc from link m) rest w = is
    first-rmb (Llc from link m) rest w = is
    first-rmb (Clc from s link m) rest w = is
    first-rmb (Write from link key address len) rest w = by (next_cdc rest) refl
      where
        named : (m : CdcMessage) → next_cdc rest ≡ Some m → (r : Option Lending) → record_of setup payload (other x) m.token past ≡ r → IsRmb setup (other x) (written_for setup payload x past address len rest r Buf)
        named m i None j = is
        named m i (Some l) j = landed-rmb address len rest m.token l (own-write setup one payload x past p.0 p.3 from link key address len rest w all m i l j)

        by : (q : Option CdcMessage) → next_cdc rest ≡ q → IsRmb setup (other x) (written_for setup payload x past address len rest (option_and_then (λ (m : CdcMessage). record_of setup payload (other x) m.token past) q) Buf)
        by None i = is
        by (Some m) i = named m i (record_of setup payload (other x) m.token past) refl

    rmb-by : Way payload the_link x e past → IsRmb setup (other x) (peer_buffer setup payload x 1 (e ∷ past))
    rmb-by (inl w) = let l = w.0 in subst (λ b. IsRmb setup (other x) b) (sym (buffer-kept l.lands)) is
    rmb-by (inr (inl w)) = let l = w.0 in
        let q : Waiting ≡ (l.first).post ∷ Posts l.rest = ap (λ cs. Posts cs) l.waiting in
        subst (λ b. IsRmb setup (other x) b) (sym (buffer-lands l.lands ((l.first).post ∷ Posts l.rest) q)) (first-rmb (l.first).post (Posts l.rest) q)
    rmb-by (inr (inr w)) = let l = w.0 in subst (λ b. IsRmb setup (other x) b) (sym (buffer-kept l.lands)) is

    pub rmb-on : IsRmb setup (other x) (peer_buffer setup payload x 1 (e ∷ past))
    rmb-on = let g = gives-items setup one payload e past n p in rmb-by (g.way x)

    -- the bytes of one end
    module _ (s : ℕ) (o : Offered) (f : offered (other x) s past ≡ Some o) where
      abbrev Now : Half
      Now = half x (pipe_of setup payload 1 s past)

      abbrev Taker : Half
      Taker = half (other x) (pipe_of setup payload 1 s past)

      abbrev Elem : Place
      Elem = offered_place o.offer

      abbrev Goal : Type 0
      Goal = Reaches setup payload x s o (e ∷ past)

      reached : Reaches setup payload x s o past
      reached = all s o f

      is-idle : is_up x s past ≡ false → Now.sent ≡ []
      is-idle u = let q = has-pipe setup payload s past p.0 p.3 (shaken setup one payload past p.0 p.3) in
          subst (λ g. (half x (pipe_of setup payload g s past)).sent ≡ []) (grouped setup past (has-offers setup one payload past p.0 p.3) (other x) s o f) (q.idle x u)

      -- nothing moves
      kept-as : (m : Moved setup one payload e past n p x s o f Now.landed) → leaving the_link x e past ≡ 0 → landing_now the_link x e past ≡ 0 → Goal
      kept-as m l k =
          let r = reached in
          let mk = mark setup one payload e past n p x s o f in
          let st = starts setup one payload e past n p x s o f in
          finish setup one payload e past n p x s o f Now.landed m mk.landed_sent Waiting (posts-by 0 Waiting l (drop-none Waiting)) r.reach Taker.taken.told r.carries st.1 r.told
          (subst (λ b. Stand Size Elem Taker.rd r.reach Now.out b) (sym (buffer-kept k)) r.stand)

      module _ (l : LandsNow the_link x e past) (d : deeds payload s e.event e.reply past ≡ if_own (Lands x) x s (Some (l.first).at) past) where
        abbrev Rest : List Post
        Rest = Posts l.rest

        waits : (post : Post) → (l.first).post ≡ post → Waiting ≡ post ∷ Rest
        waits post i = ap (λ cs. Posts cs) l.waiting ∙ ap (λ q. q ∷ Rest) i

        left-over : (post : Post) → (l.first).post ≡ post → waiting_posts x (e ∷ past) ≡ Rest ++ All
        left-over post i = posts-by 1 Rest l.leaves (ap (λ ps. drop 1 ps) (waits post i) ∙ drop-none Rest)

        -- the post is none of its messages
        passes-as : (post : Post) (i : (l.first).post ≡ post) → is_cdc x o.offer.token post ≡ false → (reach : ℕ) → Carries Size x Elem o.offer.token reach Rest (drop Now.landed Now.sent) Now.last.told → Taker.taken.told ≤ reach →
            Stand Size Elem Taker.rd reach Now.out (first_lands setup payload x past (post ∷ Rest) Buf) → Goal
        passes-as post i c reach k t stood =
            let mk = mark setup one payload e past n p x s o f in
            let st = starts setup one payload e past n p x s o f in
            finish setup one payload e past n p x s o f Now.landed (moved-passes setup one payload e past n p x s o f l d (ap (λ q. is_cdc x o.offer.token q) i ∙ c)) mk.landed_sent Rest (left-over post i) reach Taker.taken.told k st.1 t
            (subst (λ b. Stand Size Elem Taker.rd reach Now.out b) (sym (buffer-lands l.lands (post ∷ Rest) (waits post i))) stood)

        was : (post : Post) (i : (l.first).post ≡ post) → Carries Size x Elem o.offer.token reached.reach (post ∷ Rest) (drop Now.landed Now.sent) Now.last.told
        was post i = let r = reached in subst (λ ps. Carries Size x Elem o.offer.token r.reach ps (drop Now.landed Now.sent) Now.last.told) (waits post i) r.carries

        -- its message lands
        message-lands : (from : Side) (link : LinkId) (m : CdcMessage) (i : (l.first).post ≡ Cdc from link m) → same_side x from ≡ true → (o.offer.token == m.token) ≡ true → (sn : Sent) (rest : List Sent) → drop Now.landed Now.sent ≡ sn ∷ rest → sn.snapshot.told ≡ reached.reach → Carries Size x Elem o.offer.token reached.reach Rest rest Now.last.told → Goal
        message-lands from link m i side tok sn rest is-first told c =
            let r = reached in
            let st = starts setup one payload e past n p x s o f in
            let tail : drop (Now.landed + 1) Now.sent ≡ rest = tail-of sn [] rest Now.landed Now.sent is-first in
            let room : Now.landed + 1 ≤ length Now.sent = (let a : length Now.sent - Now.landed ≡ 1 + length rest = sym (length-drop Now.landed Now.sent) ∙ ap (λ ms. length ms) is-first ∙ one-more rest in omega (arith, a)) in
            let own : is_cdc x o.offer.token (Cdc from link m) ≡ true = ap (λ b. b && (o.offer.token == m.token)) side ∙ tok in
            let g : GoOn Taker.taken.told (sn ∷ rest) Now.last.told = subst (λ ms. GoOn Taker.taken.told ms Now.last.told) is-first st.1 in
            finish setup one payload e past n p x s o f (Now.landed + 1) (moved-lands setup one payload e past n p x s o f l d (ap (λ q. is_cdc x o.offer.token q) i ∙ own)) room Rest (left-over (Cdc from link m) i) r.reach sn.snapshot.told
            (subst (λ ms. Carries Size x Elem o.offer.token r.reach Rest ms Now.last.told) (sym tail) c) (subst (λ ms. GoOn sn.snapshot.told ms Now.last.told) (sym tail) g.1) (omega (arith, told))
            (subst (λ b. Stand Size Elem Taker.rd r.reach Now.out b) (sym (buffer-lands l.lands (Cdc from link m ∷ Rest) (waits (Cdc from link m) i))) r.stand)
          where
            one-more : (ms : List Sent) → length (sn ∷ ms) ≡ 1 + length ms
            one-more ms = grind (arith, common_steps)

        -- an end that is not up has no bytes
        no-bytes : is_up x s past ≡ false → reached.reach ≤ 0
        no-bytes u =
            let r = reached in
            let st = starts setup one payload e past n p x s o f in
            let none : 0 ≡ Now.last.told = subst (λ ms. GoOn 0 ms Now.last.told) (is-idle u) st.0 in
            let up = carries-up Size x Elem o.offer.token r.reach Now.last.told Waiting (drop Now.landed Now.sent) r.carries in
            omega (arith, none, up)

        lent-is : is_up x s past ≡ true → (find (λ k. k.s == s) (lent setup payload (other x) past) ≡ Some (lends_by s the_link o.offer)) × (record_of setup payload (other x) o.offer.token past ≡ Some (lends_by s the_link o.offer))
        lent-is u = let offers = has-offers setup one payload past p.0 p.3 in
            stays-lent setup one payload past p.0 p.3 (other x) s o.offer (f ∙ on-link-is o (offers.link (other x) s o f)) (peer-not-fallen setup one payload past p.0 p.3 x s u)

        -- a write of another end leaves its bytes
        module _ (address len : ℕ) (m : CdcMessage) (other-token : (o.offer.token == m.token) ≡ false) where
          elsewhere : (k : Lending) → record_of setup payload (other x) m.token past ≡ Some k → Owned setup one payload x past address len Rest m.token k → (u : Bool) → is_up x s past ≡ u → Stand Size Elem Taker.rd reached.reach Now.out (written_for setup payload x past address len Rest (Some k) Buf)
          elsewhere k j ow false u = λ i above below. absurd (let z = no-bytes u in omega (arith, z, below))
          elsewhere k j ow true u =
              let r = reached in
              let o2 = ow.o in
              let els = element-of setup one payload x past p.0 p.3 Buf is s o f in
              let els2 = element-of setup one payload x past p.0 p.3 Buf is k.s o2 ow.offered_is in
              let mine = lent-is u in
              let a = played-lendings setup one payload past p.0 p.3 (other x) in
              let differ : same_place (lends_by s the_link o.offer).place k.place ≡ false =
              found-apart (λ q. q.token == o.offer.token) (λ q. q.token == m.token) (λ q i j. true≢false (sym (eq-eqb o.offer.token m.token (sym (eqb-true q.token o.offer.token i) ∙ eqb-true q.token m.token j)) ∙ other-token))
              (lent setup payload (other x) past) (lends_by s the_link o.offer) k a.places mine.1 j in
              let apart : same_place Elem (offered_place o2.offer) ≡ false = subst (λ (q : Lending). same_place Elem q.place ≡ false) ow.lent_is differ in
              let bytes : List ℕ = bytes_of (half x (pipe_of setup payload k.group k.s past)) len Rest in
              let long : length bytes ≡ len = ap (λ bs. length bs) ow.bytes ∙ slice-length ow.at len (half x (pipe_of setup payload 1 k.s past)).out ow.has in
              either bytes (k.place.rmb == Buf.rmb) (subst (λ at. Stand Size Elem Taker.rd r.reach Now.out (lands at bytes Buf)) (sym ow.address_is)
              (stand-else Size Elem (offered_place o2.offer) Buf els els2 apart Taker.rd r.reach Now.out ow.at len bytes long ow.fits r.stand))
            where
              either : (bytes : List ℕ) (b : Bool) → Stand Size Elem Taker.rd reached.reach Now.out (lands address bytes Buf) → Stand Size Elem Taker.rd reached.reach Now.out (if b then lands address bytes Buf else Buf)
              either bytes true stood = stood
              either bytes false stood = let r = reached in r.stand

          else-stands : (from : Side) (link : LinkId) (key : ℕ) → Waiting ≡ Write from link key address len ∷ Rest → next_cdc Rest ≡ Some m → (q : Option Lending) → record_of setup payload (other x) m.token past ≡ q → Stand Size Elem Taker.rd reached.reach Now.out (written_for setup payload x past address len Rest q Buf)
          else-stands from link key w i None j = let r = reached in r.stand
          else-stands from link key w i (Some k) j = elsewhere k j (own-write setup one payload x past p.0 p.3 from link key address len Rest w all m i k j) (is_up x s past) refl

        -- its own goes on from them
        own-stands : (address len : ℕ) (m : CdcMessage) → next_cdc Rest ≡ Some m → (o.offer.token == m.token) ≡ true → address ≡ address_of Size Elem reached.reach → reached.reach % Size + len ≤ Size → Carries Size x Elem o.offer.token (reached.reach + len) Rest (drop Now.landed Now.sent) Now.last.told →
            Stand Size Elem Taker.rd (reached.reach + len) Now.out (written_for setup payload x past address len Rest (record_of setup payload (other x) m.token past) Buf)
        own-stands address len m i tok at fits c =
            let r = reached in
            let cn = count setup one payload e past n p x s o f in
            let els = element-of setup one payload x past p.0 p.3 Buf is s o f in
            let tells = tells-next Size x Elem o.offer.token (r.reach + len) Now.last.told Rest (drop Now.landed Now.sent) m i tok c in
            let up = carries-up Size x Elem o.offer.token (r.reach + len) Now.last.told Rest (drop Now.landed Now.sent) c in
            let mine = lent-is (is-up-by tells.first tells.rest tells.is (is_up x s past) refl) in
            let named : record_of setup payload (other x) m.token past ≡ Some (lends_by s the_link o.offer) = ap (λ t. record_of setup payload (other x) t past) (sym (eqb-true o.offer.token m.token tok)) ∙ mine.1 in
            let there : ((offered_place o.offer).rmb == Buf.rmb) ≡ true = eq-eqb (offered_place o.offer).rmb Buf.rmb els.rmb in
            let whole : List ℕ = bytes_of (half x (pipe_of setup payload the_link.group s past)) len Rest in
            subst (λ q. Stand Size Elem Taker.rd (r.reach + len) Now.out (written_for setup payload x past address len Rest q Buf)) (sym named)
            (subst (λ b. Stand Size Elem Taker.rd (r.reach + len) Now.out (if b then lands address whole Buf else Buf)) (sym there)
            (subst (λ bytes. Stand Size Elem Taker.rd (r.reach + len) Now.out (lands address bytes Buf)) (sym (bytes-are setup one payload x Now r.reach len Rest Elem o.offer.token tells))
            (subst (λ a. Stand Size Elem Taker.rd (r.reach + len) Now.out (lands a (take len (drop r.reach Now.out)) Buf)) (sym at)
            (stand-more Size Elem Buf els Taker.rd r.reach len Now.out fits (omega (arith, up, cn.told, cn.accepted_fits)) (omega (arith, up, cn.told)) r.stand))))
          where
            is-up-by : (a : Sent) (rest : List Sent) → drop Now.landed Now.sent ≡ a ∷ rest → (u : Bool) → is_up x s past ≡ u → u ≡ true
            is-up-by a rest g true u = refl
            is-up-by a rest g false u = absurd (none-first a Now.sent rest Now.landed (is-idle u) g)

        by-post : (post : Post) → (l.first).post ≡ post → Goal
        by-post (Llc from link m) i = let r = reached in passes-as (Llc from link m) i refl r.reach (was (Llc from link m) i) r.told r.stand
        by-post (Clc from t link m) i = let r = reached in passes-as (Clc from t link m) i refl r.reach (was (Clc from t link m) i) r.told r.stand
        by-post (Cdc from link m) i = by (was (Cdc from link m) i)
          where
            by : (same_side x from ≡ true) × ((((o.offer.token == m.token) ≡ true) × ((sn : Sent) × (rest : List Sent) × (drop Now.landed Now.sent ≡ sn ∷ rest) × (sn.snapshot.told ≡ reached.reach) × Carries Size x Elem o.offer.token reached.reach Rest rest Now.last.told))
                ⊎ (((o.offer.token == m.token) ≡ false) × Carries Size x Elem o.offer.token reached.reach Rest (drop Now.landed Now.sent) Now.last.told)) → Goal
            by (side, inl c) = let q = c.1 in message-lands from link m i side c.0 q.0 q.1 q.2 q.3 q.4
            by (side, inr c) = let r = reached in passes-as (Cdc from link m) i (ap (λ b. b && (o.offer.token == m.token)) side ∙ c.0) r.reach c.1 r.told r.stand
        by-post (Write from link key address len) i = by (was (Write from link key address len) i)
          where
            named : (m : CdcMessage) → next_cdc Rest ≡ Some m → (reach : ℕ) → Stand Size Elem Taker.rd reach Now.out (written_for setup payload x past address len Rest (record_of setup payload (other x) m.token past) Buf) → Stand Size Elem Taker.rd reach Now.out (first_lands setup payload x past (Write from link key address len ∷ Rest) Buf)
            named m j reach stood = subst (λ q. Stand Size Elem Taker.rd reach Now.out (written_for setup payload x past address len Rest (option_and_then (λ (k : CdcMessage). record_of setup payload (other x) k.token past) q) Buf)) (sym j) stood

            by : (m : CdcMessage) × (next_cdc Rest ≡ Some m) × ((((o.offer.token == m.token) ≡ true) × (address ≡ address_of Size Elem reached.reach) × (reached.reach % Size + len ≤ Size) × Carries Size x Elem o.offer.token (reached.reach + len) Rest (drop Now.landed Now.sent) Now.last.told)
                ⊎ (((o.offer.token == m.token) ≡ false) × Carries Size x Elem o.offer.token reached.reach Rest (drop Now.landed Now.sent) Now.last.told)) → Goal
            by (m, j, inl c) = let r = reached in passes-as (Write from link key address len) i refl (r.reach + len) c.3 (let t = r.told in omega (arith, t)) (named m j (r.reach + len) (own-stands address len m j c.0 c.1 c.2 c.3))
            by (m, j, inr c) = let r = reached in passes-as (Write from link key address len) i refl r.reach c.1 r.told (named m j r.reach (else-stands address len m c.0 from link key (waits (Write from link key address len) i) j (record_of setup payload (other x) m.token past) refl))

      reach-by : Way payload the_link x e past → Goal
      reach-by (inl w) = let l = w.0 in kept-as (moved-stays setup one payload e past n p x s o f (w.1 s)) l.leaves l.lands
      reach-by (inr (inl w)) = let l = w.0 in by-post l (w.1 s) (l.first).post refl
      reach-by (inr (inr w)) = let l = w.0 in kept-as (moved-completes setup one payload e past n p x s o f l (w.1 s)) l.leaves l.lands

      pub reach-on : Goal
      reach-on = let g = gives-items setup one payload e past n p in reach-by (g.way x)
