-- How far the messages of an end have landed after an entry, and how far its bytes then reach.
use Rattle.std.proofs.Common.{◌≡◌, ◌∙◌, ℕ, ◌+◌, ◌≤◌, true, false, if◌then◌else◌, List, [], ◌∷◌, ◌++◌, length, drop, filter, refl, ap, sym, subst, arith}
use Rattle.std.specs.Prelude.{Some}
use Rattle.std.proofs.lemmas.List.{drop-append-le}
use Rattle.smc_num.specs.declared.Side.{Side}
use Rattle.smc_num.specs.Names.{other}
use Rattle.pipe_model.specs.declared.setup.Setup.{Setup}
use Rattle.pipe_model.specs.declared.post.Post.{Post}
use Rattle.pipe_model.specs.declared.entry.Entry.{Entry}
use Rattle.pipe_model.specs.declared.sent.Sent.{Sent}
use Rattle.pipe_model.specs.Words.{element_size}
use Rattle.pipe_model.specs.History.{Offered, offered, is_cdc}
use Rattle.pipe_model.specs.Wires.{is_on, unlanded, uncompleted}
use Rattle.pipe_model.specs.Ends.{Half}
use Rattle.pipe_model.specs.Pipe.{Terms, Item, Lands, Completes, half, pipe}
use Rattle.pipe_model.specs.Parts.{IsMarked, IsCounted}
use Rattle.pipe_model.specs.Connections.{deeds, if_own, items, part}
use Rattle.pipe_model.specs.Lending.{terms_of}
use Rattle.pipe_model.specs.Posts.{offered_place}
use Rattle.pipe_model.proofs.Pipes.{is-marked, is-counted}
use Rattle.world_core.specs.Played.{IsOneLink, IsPlayed}
use Rattle.world_core.specs.OneLink.{the_link}
use Rattle.world_core.specs.Wired.{HasGone, EachItem, passes_by}
use Rattle.world_core.specs.WireSteps.{LandsNow, CompletesNow}
use Rattle.world_core.specs.Agreement.{CanBe, GoesOn, Agree}
use Rattle.world_core.specs.Landed.{waiting_posts, peer_buffer, Stand, GoOn, Follows, Carries, Reaches}
use Rattle.world_core.proofs.Handshaken.{shaken, has-offers, gives-items}
use Rattle.world_core.proofs.Agreement.{agrees}
use Rattle.world_core.proofs.Agreed.{posts-on}
use Rattle.world_core.proofs.Idle.{all-passed-by}
use Rattle.world_core.proofs.Parts.{part-open}
use Rattle.world_core.proofs.Places.{unlanded-stand, uncompleted-stand, first-stands}
use Rattle.world_core.proofs.EntryItems.{each-append, each-more, is_fate_or_up, fate-or-up-passes, below, below-calm, items-are}
use Rattle.world_core.proofs.Own.{own-some, IsOrNot, Is, IsNot, is-or-not, gone-below, gone-lands, gone-completes}
use Rattle.world_core.proofs.Carried.{next-completes}
use Rattle.world_core.proofs.Follows.{follows}
use Rattle.world_core.proofs.Grown.{grows}
use Rattle.world_core.proofs.OnWay.{carries-append, carries-up}
use Rattle.world_core.proofs.News.{news}
use Rattle.world_core.proofs.Stood.{stand-grown}

-- what goes on behind other messages
pub go-split : (r mid last : ℕ) (ms more : List Sent) → GoOn r ms mid → GoOn r (ms ++ more) last → GoOn mid more last
go-split r mid last [] more g h = subst (λ k. GoOn k more last) g h
go-split r mid last (m ∷ ms) more g h = go-split m.snapshot.told mid last ms more g.1 h.1

-- and begins where it begins
start-same : (t u mid last : ℕ) (ms more : List Sent) → GoOn t ms mid → GoOn u (ms ++ more) last → GoOn mid more last → u ≡ t
start-same t u mid last [] [] g h i = h ∙ sym i ∙ sym g
start-same t u mid last [] (m ∷ more) g h i = sym h.0 ∙ i.0 ∙ sym g
start-same t u mid last (m ∷ ms) more g h i = sym h.0 ∙ g.0

module _ (setup : Setup) (one : IsOneLink setup) (payload : List ℕ) (e : Entry) (past : List Entry) (n : ℕ) (p : IsPlayed setup payload (e ∷ past) n) (x : Side) (s : ℕ) (o : Offered) (f : offered (other x) s past ≡ Some o) where
  abbrev T : Terms
  T = terms_of setup

  abbrev Size : ℕ
  Size = element_size setup

  abbrev P : List Item
  P = part payload 1 s past

  abbrev I : List Item
  I = items payload 1 s e past

  abbrev Now : Half
  Now = half x (pipe T P)

  abbrev Then : Half
  Then = half x (pipe T (I ++ P))

  abbrev Taker : Half
  Taker = half (other x) (pipe T P)

  abbrev Below : List Item
  Below = below 1 s e past

  go : GoesOn e past
  go = let g = gives-items setup one payload e past n p in g.goes_on

  calm : EachItem is_fate_or_up Below
  calm = below-calm 1 s e past go

  agree : Agree setup payload past
  agree = agrees setup payload past p.0 p.3 (shaken setup one payload past p.0 p.3)

  can : CanBe T P
  can = let a = agree in a.part_can_be s

  pub mark : IsMarked Now
  mark = let c = can in is-marked T x P c.feasible

  pub count : IsCounted Size Now Taker
  count = let c = can in is-counted T x P c.feasible

  pub starts : Follows Now Taker
  starts = let c = can in follows T x P (part-open setup payload 1 s past p.0 p.3 (shaken setup one payload past p.0 p.3)) c.feasible c.whole

  -- so many of its messages have landed
  pub record Moved (landed : ℕ) : Type 0 where
    pub completed : ℕ
    pub gone : HasGone Now Then landed completed

  over : (l c : ℕ) (ds : List Item) → deeds payload s e.event e.reply past ≡ ds → HasGone Now (half x (pipe T ((ds ++ Below) ++ P))) l c → Moved l
  over l c ds d g = record { completed = c; gone = subst (λ is. HasGone Now (half x (pipe T (is ++ P))) l c) (sym (items-are payload 1 s e past ∙ ap (λ is. is ++ Below) d)) g }

  pub moved-stays : EachItem (passes_by x) (deeds payload s e.event e.reply past) → Moved Now.landed
  moved-stays w = over Now.landed Now.completed (deeds payload s e.event e.reply past) refl
      (all-passed-by T x (deeds payload s e.event e.reply past ++ Below) P (each-append (passes_by x) (deeds payload s e.event e.reply past) Below w (each-more is_fate_or_up (passes_by x) (fate-or-up-passes x) Below calm)))

  pub moved-lands : (l : LandsNow the_link x e past) → deeds payload s e.event e.reply past ≡ if_own (Lands x) x s (Some l.first.at) past → is_cdc x o.offer.token l.first.post ≡ true → Moved (Now.landed + 1)
  moved-lands l d i =
      let place = first-stands past (unlanded the_link x past) l.first l.rest (unlanded-stand the_link x past) l.waiting in
      over (Now.landed + 1) Now.completed (Lands x ∷ []) (d ∙ own-some (Lands x) x s l.first.at past o l.first.post f place ∙ ap (λ b. if b then Lands x ∷ [] else []) i) (gone-lands T x Below P calm)

  pub moved-passes : (l : LandsNow the_link x e past) → deeds payload s e.event e.reply past ≡ if_own (Lands x) x s (Some l.first.at) past → is_cdc x o.offer.token l.first.post ≡ false → Moved Now.landed
  moved-passes l d i =
      let place = first-stands past (unlanded the_link x past) l.first l.rest (unlanded-stand the_link x past) l.waiting in
      over Now.landed Now.completed [] (d ∙ own-some (Lands x) x s l.first.at past o l.first.post f place ∙ ap (λ b. if b then Lands x ∷ [] else []) i) (gone-below T x Below P calm)

  pub moved-completes : (l : CompletesNow the_link x e past) → deeds payload s e.event e.reply past ≡ if_own (Completes x) x s (Some l.first.at) past → Moved Now.landed
  moved-completes l d = by (is-or-not x o.offer.token l.first.post)
    where
      by : IsOrNot x o.offer.token l.first.post → Moved Now.landed
      by (Is m i k) =
          let place = first-stands past (uncompleted the_link x past) l.first l.rest (uncompleted-stand the_link x past) l.waiting in
          let sh = shaken setup one payload (e ∷ past) n p in
          let q = sh.1 in
          let r = q.1 in
          let a = agree in
          let b = next-completes Size the_link x o.offer.token e past Now Then (posts-on setup payload e past p.0 p.0 p.1 p.3 (has-offers setup one payload past p.0 p.3) q.0 r.0 r.1) mark (a.carried x s o f) l m k in
          over Now.landed (Now.completed + 1) (Completes x ∷ []) (d ∙ own-some (Completes x) x s l.first.at past o l.first.post f place ∙ ap (λ c. if c then Completes x ∷ [] else []) i) (gone-completes T x Below P calm b.x b.others mark b.is)
      by (IsNot i k) =
          let place = first-stands past (uncompleted the_link x past) l.first l.rest (uncompleted-stand the_link x past) l.waiting in
          over Now.landed Now.completed [] (d ∙ own-some (Completes x) x s l.first.at past o l.first.post f place ∙ ap (λ c. if c then Completes x ∷ [] else []) i) (gone-below T x Below P calm)

  -- the bytes reach as far as what is left on the wire begins
  pub finish : (left : ℕ) → Moved left → left ≤ length Now.sent → (posts : List Post) → waiting_posts x (e ∷ past) ≡ posts ++ filter (is_on the_link x) e.posts → (reach t : ℕ) →
      Carries Size x (offered_place o.offer) o.offer.token reach posts (drop left Now.sent) Now.last.told → GoOn t (drop left Now.sent) Now.last.told → t ≤ reach →
      Stand Size (offered_place o.offer) Taker.rd reach Now.out (peer_buffer setup payload x 1 (e ∷ past)) → Reaches setup payload x s o (e ∷ past)
  finish left m within posts w reach t c g l stood =
      let gone = m.gone in
      let sh = shaken setup one payload (e ∷ past) n p in
      let cs : CanBe T (I ++ P) = (let a = agrees setup payload (e ∷ past) n p sh in a.part_can_be s) in
      let fs : Follows Then (half (other x) (pipe T (I ++ P))) = follows T x (part payload 1 s (e ∷ past)) (part-open setup payload 1 s (e ∷ past) n p sh) cs.feasible cs.whole in
      let fn = starts in
      let cn = count in
      let landing : drop Then.landed Then.sent ≡ drop left Now.sent ++ gone.more =
      ap (λ k. drop k Then.sent) gone.landed_is ∙ ap (λ ms. drop left ms) gone.sent_is ∙ drop-append-le left Now.sent gone.more within in
      let after : GoOn Now.last.told gone.more Then.last.told = go-split 0 Now.last.told Then.last.told Now.sent gone.more fn.0 (subst (λ ms. GoOn 0 ms Then.last.told) gone.sent_is fs.0) in
      let start = start-same t _ Now.last.told Then.last.told (drop left Now.sent) gone.more g (subst (λ ms. GoOn (half (other x) (pipe T (I ++ P))).taken.told ms Then.last.told) landing fs.1) after in
      let out = grows T x I P in
      let rd = grows T (other x) I P in
      let more = out.1 in
      let up = carries-up Size x (offered_place o.offer) o.offer.token reach Now.last.told posts (drop left Now.sent) c in
      record {
        reach = reach;
        carries = subst (λ ps. Carries Size x (offered_place o.offer) o.offer.token reach ps (drop Then.landed Then.sent) Then.last.told) (sym w)
            (subst (λ ms. Carries Size x (offered_place o.offer) o.offer.token reach (posts ++ filter (is_on the_link x) e.posts) ms Then.last.told) (sym landing)
            (carries-append Size x (offered_place o.offer) o.offer.token (filter (is_on the_link x) e.posts) gone.more Now.last.told Then.last.told (news setup one payload e past n p x s o f left m.completed gone) reach posts (drop left Now.sent) c));
        told = omega (arith, start, l);
        stand = subst (λ bytes. Stand Size (offered_place o.offer) (half (other x) (pipe T (I ++ P))).rd reach bytes (peer_buffer setup payload x 1 (e ∷ past))) (sym more.1)
            (stand-grown Size (offered_place o.offer) (peer_buffer setup payload x 1 (e ∷ past)) Taker.rd reach (half (other x) (pipe T (I ++ P))).rd Now.out more.0 rd.0 (omega (arith, up, cn.told)) stood);
      }
