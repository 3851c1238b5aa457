-- The bytes of each end that its peer was told of and has not read stand in the element that the peer offered.
use Rattle.std.proofs.Common.{◌≡◌, ◌∙◌, ◌==◌, ◌⊎◌, inl, inr, ℕ, ◌+◌, ◌-◌, ◌%◌, ◌≤◌, Bool, true, false, List, [], ◌∷◌, length, take, drop, find, refl, ap, sym, subst, ◌&&◌, true≢false, arith, eqb-true, eq-eqb, drop-drop}
use Rattle.smc_num.specs.declared.LinkId.{LinkId}
use Rattle.pipe_model.specs.Parts.{IsCounted}
use Rattle.pipe_model.proofs.Pipes.{is-counted}
use Rattle.pipe_model.specs.Connections.{part}
use Rattle.pipe_model.specs.Lending.{terms_of}
use Rattle.world_core.proofs.Agreement.{agrees}
use Rattle.world_core.proofs.Carrying.{drop-none}
use Rattle.std.specs.Prelude.{cond, Some, is_some, option_map, unwrap_or}
use Rattle.smc_num.specs.declared.Side.{Side}
use Rattle.smc_num.specs.Names.{other, head}
use Rattle.smc_num.specs.Places.{Place, same_place, address_of}
use Rattle.cdc_wire.specs.declared.CdcMessage.{CdcMessage}
use Rattle.rmb_region.specs.Regions.{Buffer}
use Rattle.pipe_model.specs.declared.setup.Setup.{Setup}
use Rattle.pipe_model.specs.declared.post.Post.{Post}
use Rattle.pipe_model.specs.declared.post.Post.TheVariants.{Write}
use Rattle.pipe_model.specs.declared.entry.Entry.{Entry}
use Rattle.pipe_model.specs.declared.sent.Sent.{Sent}
use Rattle.pipe_model.specs.Words.{element_size}
use Rattle.pipe_model.specs.History.{Offered, offered}
use Rattle.pipe_model.specs.Ends.{Half}
use Rattle.pipe_model.specs.Pipe.{half}
use Rattle.pipe_model.specs.Lending.{Lending, lends_by, record_of, pipe_of}
use Rattle.pipe_model.specs.Posts.{offered_place}
use Rattle.world_core.specs.Played.{IsOneLink, IsPlayed}
use Rattle.world_core.specs.OneLink.{the_link}
use Rattle.world_core.specs.Sockets.{on_link}
use Rattle.world_core.specs.Lent.{HavePlaces}
use Rattle.rc_link.specs.Wire.{next_cdc}
use Rattle.world_core.specs.Landed.{carried, told_next, bytes_of, waiting_posts, Carries, Reaches, IsRmb}
use Rattle.world_core.proofs.PlayedWorlds.{played}
use Rattle.world_core.proofs.LendingFacts.{played-lendings}
use Rattle.world_core.proofs.Records.{found-is, record-of-offer, all-offers}
use Rattle.world_core.proofs.Handshaken.{shaken}
use Rattle.world_core.proofs.Stood.{IsElement}
use Rattle.world_core.proofs.OnWay.{carries-up, tells-next, Tells}
use Rattle.world_core.proofs.Plain.{some-is}

pub on-link-is : (o : Offered) → o.link ≡ the_link → Some o ≡ on_link o.offer
on-link-is o e = ap (λ l. Some (record { link = l; offer = o.offer })) e

some-lending : (a b : Lending) → Some a ≡ Some b → a ≡ b
some-lending a b e = cc

swapped : (a b : Place) → same_place a b ≡ false → same_place b a ≡ false
swapped a b e = by (b.rmb == a.rmb) (b.index == a.index) refl refl
  where
    by : (c d : Bool) → (b.rmb == a.rmb) ≡ c → (b.index == a.index) ≡ d → same_place b a ≡ false
    by false d i j = ap (λ q. q && (b.index == a.index)) i
    by true false i j = ap (λ q. q && (b.index == a.index)) i ∙ j
    by true true i j = absurd (true≢false (sym (ap (λ q. q && (a.index == b.index)) (eq-eqb a.rmb b.rmb (sym (eqb-true b.rmb a.rmb i))) ∙ eq-eqb a.index b.index (sym (eqb-true b.index a.index j))) ∙ e))

-- two lendings that are found by tests of which none passes both are of different places
pub found-apart : (f g : Lending → Bool) → ((l : Lending) → f l ≡ true → g l ≡ true → ⊥) → (ls : List Lending) (l k : Lending) → HavePlaces ls → find f ls ≡ Some l → find g ls ≡ Some k → same_place l.place k.place ≡ false
found-apart f g apart [] l k h i j = absurd (true≢false (sym (ap (λ o. is_some o) i)))
found-apart f g apart (m ∷ ls) l k h i j = by (f m) (g m) refl refl (found-apart f g apart ls l k h.1)
  where
    by : (b c : Bool) → f m ≡ b → g m ≡ c → (find f ls ≡ Some l → find g ls ≡ Some k → same_place l.place k.place ≡ false) → same_place l.place k.place ≡ false
    by true true p q r = absurd (apart m p q)
    by true false p q r =
        let first : m ≡ l = some-lending m l (ap (λ b. cond b (Some m) (find f ls)) (sym p) ∙ i) in
        let rest : find g ls ≡ Some k = ap (λ b. cond b (Some m) (find g ls)) (sym q) ∙ j in
        let other = found-is (λ r. same_place m.place r.place ≡ false) g ls k h.0 rest in
        subst (λ (t : Lending). same_place t.place k.place ≡ false) first other.0
    by false true p q r =
        let first : m ≡ k = some-lending m k (ap (λ b. cond b (Some m) (find g ls)) (sym q) ∙ j) in
        let rest : find f ls ≡ Some l = ap (λ b. cond b (Some m) (find f ls)) (sym p) ∙ i in
        let other = found-is (λ r. same_place m.place r.place ≡ false) f ls l h.0 rest in
        subst (λ (t : Lending). same_place l.place t.place ≡ false) first (swapped m.place l.place other.0)
    by false false p q r = r (ap (λ b. cond b (Some m) (find f ls)) (sym p) ∙ i) (ap (λ b. cond b (Some m) (find g ls)) (sym q) ∙ j)

pub tail-of : (m : Sent) (ms rest : List Sent) (i : ℕ) (all : List Sent) → drop i all ≡ m ∷ rest → drop (i + 1) all ≡ rest
tail-of m ms rest i all e = sym (drop-drop 1 i all) ∙ ap (λ ks. drop 1 ks) e ∙ drop-none rest

module _ (setup : Setup) (one : IsOneLink setup) (payload : List ℕ) (x : Side) where
  abbrev Size : ℕ
  Size = element_size setup

  abbrev pub AllReach : List Entry → Type 0
  AllReach past = (s : ℕ) (o : Offered) → offered (other x) s past ≡ Some o → Reaches setup payload x s o past

  -- an element that the peer offered
  pub element-of : (past : List Entry) (n : ℕ) → IsPlayed setup payload past n → (b : Buffer) → IsRmb setup (other x) b → (s : ℕ) (o : Offered) → offered (other x) s past ≡ Some o → IsElement Size (offered_place o.offer) b
  element-of past n p b is s o f =
      let w = played setup one payload past n p in
      let a = all-offers setup w.stage past w.world (other x) s o f in
      let q = a.1 in
      record { whole = is.whole; size_is = is.size; rmb = q.rmb ∙ sym is.rmb; low = q.low; high = omega (arith, q.high, is.elements) }

  -- what a write that lands writes, by the connection of its token
  pub record Owned (past : List Entry) (address len : ℕ) (rest : List Post) (token : ℕ) (l : Lending) : Type 0 where
    pub o : Offered
    pub offered_is : offered (other x) l.s past ≡ Some o
    pub lent_is : l ≡ lends_by l.s the_link o.offer
    pub token_is : o.offer.token ≡ token
    pub at : ℕ
    pub address_is : address ≡ address_of Size (offered_place o.offer) at
    pub fits : at % Size + len ≤ Size
    pub has : at + len ≤ length (half x (pipe_of setup payload 1 l.s past)).out
    pub bytes : bytes_of (half x (pipe_of setup payload l.group l.s past)) len rest ≡ take len (drop at (half x (pipe_of setup payload 1 l.s past)).out)

  pub bytes-are : (h : Half) (reach len : ℕ) (rest : List Post) (place : Place) (token : ℕ) → Tells Size x place token (reach + len + carried rest) (drop h.landed h.sent) → bytes_of h len rest ≡ take len (drop reach h.out)
  bytes-are h reach len rest place token t =
      let told : told_next h ≡ reach + len + carried rest = ap (λ ms. unwrap_or (option_map (λ (m : Sent). m.snapshot.told) (head ms)) 0) t.is ∙ t.told_is in
      let e : told_next h - (len + carried rest) ≡ reach = omega (arith, told) in
      ap (λ k. take len (drop k h.out)) e

  pub own-write : (past : List Entry) (n : ℕ) (p : IsPlayed setup payload past n) (from : Side) (link : LinkId) (key address len : ℕ) (rest : List Post) → waiting_posts x past ≡ Write from link key address len ∷ rest → AllReach past →
      (m : CdcMessage) → next_cdc rest ≡ Some m → (l : Lending) → record_of setup payload (other x) m.token past ≡ Some l → Owned past address len rest m.token l
  own-write past n p from link key address len rest w all m e l r =
      let of = record-of-offer setup payload (other x) past (played-lendings setup one payload past n p (other x)) m.token l r in
      let o : Offered = record { link = the_link; offer = of.0 } in
      let there = of.1 in
      let more = there.1 in
      let reached : Reaches setup payload x l.s o past = all l.s o there.0 in
      let c = subst (λ ps. Carries Size x (offered_place of.0) (of.0).token reached.reach ps (drop (half x (pipe_of setup payload 1 l.s past)).landed (half x (pipe_of setup payload 1 l.s past)).sent) (half x (pipe_of setup payload 1 l.s past)).last.told) w reached.carries in
      by o there.0 more.0 more.1 reached.reach c.0 c.1 c.2
    where
      by : (o : Offered) → offered (other x) l.s past ≡ Some o → l ≡ lends_by l.s the_link o.offer → o.offer.token ≡ m.token → (reach : ℕ) (k : CdcMessage) → next_cdc rest ≡ Some k →
          (((o.offer.token == k.token) ≡ true) × (address ≡ address_of Size (offered_place o.offer) reach) × (reach % Size + len ≤ Size) × Carries Size x (offered_place o.offer) o.offer.token (reach + len) rest (drop (half x (pipe_of setup payload 1 l.s past)).landed (half x (pipe_of setup payload 1 l.s past)).sent) (half x (pipe_of setup payload 1 l.s past)).last.told)
          ⊎ (((o.offer.token == k.token) ≡ false) × Carries Size x (offered_place o.offer) o.offer.token reach rest (drop (half x (pipe_of setup payload 1 l.s past)).landed (half x (pipe_of setup payload 1 l.s past)).sent) (half x (pipe_of setup payload 1 l.s past)).last.told) → Owned past address len rest m.token l
      by o f li t reach k j (inr c) = absurd (true≢false (sym (eq-eqb o.offer.token k.token (t ∙ ap (λ (q : CdcMessage). q.token) (some-is m k (sym e ∙ j)))) ∙ c.0))
      by o f li t reach k j (inl c) =
          let h : Half = half x (pipe_of setup payload 1 l.s past) in
          let tells = tells-next Size x (offered_place o.offer) o.offer.token (reach + len) h.last.told rest (drop h.landed h.sent) k j c.0 c.3 in
          let up = carries-up Size x (offered_place o.offer) o.offer.token (reach + len) h.last.told rest (drop h.landed h.sent) c.3 in
          let n-of = count-at l.s in
          record {
            o = o;
            offered_is = f;
            lent_is = li;
            token_is = t;
            at = reach;
            address_is = c.1;
            fits = c.2;
            has = omega (arith, up, n-of.told);
            bytes = ap (λ g. bytes_of (half x (pipe_of setup payload g l.s past)) len rest) (ap (λ (q : Lending). q.group) li) ∙ bytes-are h reach len rest (offered_place o.offer) o.offer.token tells;
          }
        where
          count-at : (s : ℕ) → IsCounted Size (half x (pipe_of setup payload 1 s past)) (half (other x) (pipe_of setup payload 1 s past))
          count-at s = let a = agrees setup payload past n p (shaken setup one payload past n p) in let c = a.part_can_be s in is-counted (terms_of setup) x (part payload 1 s past) c.feasible
