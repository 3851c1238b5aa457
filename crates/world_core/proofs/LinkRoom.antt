-- The one link carries at most three posts for each snapshot that may be in flight, and one LLC message.
use Rattle.std.proofs.Common.{◌≡◌, ◌∙◌, ◌==◌, ◌⊎◌, inl, inr, ℕ, ◌+◌, ◌-◌, ◌*◌, ◌≤◌, ◌<◌, Bool, true, false, if◌then◌else◌, List, [], ◌∷◌, ◌++◌, length, map, filter, refl, ap, sym, subst, ◌&&◌, true≢false, arith, length-append, length-drop, length-take, suc, zero, mul-add, mul-zero, eq-eqb}
use Rattle.std.specs.Prelude.{Option, Some, None, is_some, cond}
use Rattle.std.specs.List.{cons_option}
use Rattle.std.proofs.lemmas.List.{map-append, length-map}
use Rattle.smc_num.specs.declared.Side.{Side}
use Rattle.smc_num.specs.declared.LinkId.{LinkId}
use Rattle.smc_num.specs.Names.{other, same_side, same_link, head}
use Rattle.cdc_wire.specs.declared.CdcMessage.{CdcMessage}
use Rattle.pipe_model.specs.declared.setup.Setup.{Setup}
use Rattle.pipe_model.specs.declared.post.Post.{Post}
use Rattle.pipe_model.specs.declared.post.Post.TheVariants.{Write, Cdc, Llc, Clc}
use Rattle.pipe_model.specs.declared.post.Placed.{Placed}
use Rattle.pipe_model.specs.declared.entry.Entry.{Entry}
use Rattle.pipe_model.specs.declared.sent.Sent.{Sent}
use Rattle.pipe_model.specs.Words.{element_size}
use Rattle.pipe_model.specs.History.{Offered, offered}
use Rattle.pipe_model.specs.Wires.{is_on, completes_later, unlanded, uncompleted}
use Rattle.pipe_model.specs.Ends.{Half, to_land, to_complete}
use Rattle.pipe_model.specs.Pipe.{half}
use Rattle.pipe_model.specs.Parts.{EachOf, snapshots, IsMarked, IsFlying}
use Rattle.pipe_model.specs.Connections.{is_up, part}
use Rattle.pipe_model.specs.Lending.{terms_of, pipe_of}
use Rattle.pipe_model.proofs.Pipes.{is-marked, is-flying}
use Rattle.world_core.specs.Played.{IsOneLink, IsPlayed}
use Rattle.world_core.specs.OneLink.{the_link, llc_waiting}
use Rattle.world_core.specs.Room.{sum_below, HasRoom}
use Rattle.world_core.specs.Wired.{cdc_under, if_meant, cdcs, message, returning, IsCarried, IsOpenSent, IsOpenEnd}
use Rattle.world_core.specs.WireSteps.{EachPlaced}
use Rattle.world_core.specs.Agreement.{HasOffers, IsElse, Agree}
use Rattle.world_core.proofs.OpenEnds.{half-open}
use Rattle.world_core.proofs.Idle.{idle}
use Rattle.world_core.proofs.Carrying.{cdcs-append}
use Rattle.world_core.proofs.Places.{placed-append, placed-filter, placed-more}
use Rattle.world_core.proofs.Parts.{part-open}
use Rattle.world_core.proofs.UpEnds.{pipe-is-up}
use Rattle.world_core.proofs.Agreed.{each-drop}
use Rattle.world_core.proofs.Agreement.{agrees}
use Rattle.world_core.proofs.Heads.{unlanded-there, uncompleted-there, Gave, gave}
use Rattle.world_core.proofs.PlayedWorlds.{played}
use Rattle.world_core.proofs.Handshaken.{shaken, has-offers}
use Rattle.world_core.proofs.Batched.{cdc_count, batched-all, Posts, posts-filter, queue}
use Rattle.world_core.proofs.Counts.{queue-batched, few-waiting, all-under-way, sum-more, count_for, Known, counted}
use Rattle.world_core.proofs.Plain.{and-left}

-- posts that complete later have all the CDC messages
later-by : (x : Side) (token : ℕ) (p : Post) (c : Placed) (cs ds : List Placed) → c.post ≡ p → cdcs x token ds ≡ cdcs x token cs → cdcs x token (cond (completes_later p) (c ∷ ds) ds) ≡ cons_option (cdc_under x token c.post) (cdcs x token cs)
later-by x token (Write from l key address len) c cs ds e f = ap (λ ms. cons_option (cdc_under x token c.post) ms) f
later-by x token (Cdc from l m) c cs ds e f = ap (λ ms. cons_option (cdc_under x token c.post) ms) f
later-by x token (Clc from s l m) c cs ds e f = ap (λ ms. cons_option (cdc_under x token c.post) ms) f
later-by x token (Llc from l m) c cs ds e f = f ∙ ap (λ p. cons_option (cdc_under x token p) (cdcs x token cs)) (sym e)

later-same : (x : Side) (token : ℕ) (cs : List Placed) → cdcs x token (filter (λ c. completes_later c.post) cs) ≡ cdcs x token cs
later-same x token [] = refl
later-same x token (c ∷ cs) = later-by x token c.post c cs (filter (λ d. completes_later d.post) cs) refl (later-same x token cs)

-- where no CDC message is under a token, none of the posts is
both-none : (o : Option CdcMessage) (ms : List CdcMessage) → cons_option o ms ≡ [] → (o ≡ None) × (ms ≡ [])
both-none None ms e = (refl, e)
both-none (Some m) ms e = absurd (true≢false (ap (λ ns. is_some (head ns)) e))

abbrev NoneUnder : Side → List Placed → Placed → Type 0
NoneUnder x cs c = (token : ℕ) → cdcs x token cs ≡ [] → cdc_under x token c.post ≡ None

none-in : (x : Side) (cs : List Placed) → EachPlaced (NoneUnder x cs) cs
none-in x [] = tt
none-in x (c ∷ cs) = (
  λ token e. let q = both-none (cdc_under x token c.post) (cdcs x token cs) e in q.0,
  placed-more (NoneUnder x cs) (NoneUnder x (c ∷ cs)) (λ d f token e. let q = both-none (cdc_under x token c.post) (cdcs x token cs) e in f token q.1) cs (none-in x cs),
)

placed-both : (P Q : Placed → Type 0) (cs : List Placed) → EachPlaced P cs → EachPlaced Q cs → EachPlaced (λ c. P c × Q c) cs
placed-both P Q [] p q = tt
placed-both P Q (c ∷ cs) p q = ((p.0, q.0), placed-both P Q cs p.1 q.1)

-- messages that validate nothing are snapshots
snapshots-all : (ms : List Sent) → EachOf IsOpenSent ms → length (snapshots ms) ≡ length ms
snapshots-all [] e = refl
snapshots-all (m ∷ ms) e =
    let o = e.0 in
    ap (λ b. length (if b then snapshots ms else m.snapshot ∷ snapshots ms)) o.0 ∙ ap (λ n. suc n) (snapshots-all ms e.1)

sum-times : (d : ℕ) (f : ℕ → ℕ) (n : ℕ) → sum_below (λ s. d * f s) n ≡ d * sum_below f n
sum-times d f zero = sym (mul-zero d)
sum-times d f (suc n) = ap (λ k. k + d * f n) (sum-times d f n) ∙ sym (mul-add d (sum_below f n) (f n))

module _ (setup : Setup) (one : IsOneLink setup) (payload : List ℕ) (x : Side) (past : List Entry) (n : ℕ) (p : IsPlayed setup payload past n) where
  abbrev V : List Placed
  V = uncompleted the_link x past ++ filter (λ c. completes_later c.post) (unlanded the_link x past)

  v-queue : Posts V ≡ queue the_link x past
  v-queue = map-append (λ c. c.post) (uncompleted the_link x past) (filter (λ c. completes_later c.post) (unlanded the_link x past)) ∙ ap (λ ps. Posts (uncompleted the_link x past) ++ ps) (posts-filter completes_later (unlanded the_link x past))

  v-cdcs : (token : ℕ) → cdcs x token V ≡ cdcs x token (uncompleted the_link x past) ++ cdcs x token (unlanded the_link x past)
  v-cdcs token = cdcs-append x token (uncompleted the_link x past) (filter (λ c. completes_later c.post) (unlanded the_link x past)) ∙ ap (λ ms. cdcs x token (uncompleted the_link x past) ++ ms) (later-same x token (unlanded the_link x past))

  abbrev IsThere : Placed → Type 0
  IsThere c = is_on the_link x c.post ≡ true

  v-there : EachPlaced IsThere V
  v-there = placed-append IsThere (uncompleted the_link x past) _ (uncompleted-there the_link x past) (placed-filter IsThere (λ c. completes_later c.post) (unlanded the_link x past) (unlanded-there the_link x past))

  agree : Agree setup payload past
  agree = agrees setup payload past n p (shaken setup one payload past n p)

  offers : HasOffers setup past
  offers = has-offers setup one payload past n p

  own : (from : Side) (l : LinkId) (m : CdcMessage) (c : Placed) → IsThere c → c.post ≡ Cdc from l m → cdc_under x m.token c.post ≡ Some m
  own from l m c there e =
      let same : same_side x from ≡ true = and-left (same_side x from) (same_link the_link l) (ap (λ post. is_on the_link x post) (sym e) ∙ there) in
      ap (λ post. cdc_under x m.token post) e ∙ ap (λ b. if_meant (b && (m.token == m.token)) m) same ∙ ap (λ b. if_meant b m) (eq-eqb m.token m.token refl)

  known-one : (c : Placed) → IsThere c × NoneUnder x V c → Known x past setup.sockets c
  known-one c q from l m e = by (gave setup (other x) m.token past offers)
    where
      by : Gave (other x) m.token past ⊎ ((s : ℕ) → IsElse m.token (offered (other x) s past)) → (s : ℕ) × ((s < setup.sockets) × ((o : Offered) × ((offered (other x) s past ≡ Some o) × (cdc_under x o.offer.token c.post ≡ Some m))))
      by (inl g) =
          let h = g.1 in
          let i = h.1 in
          (g.0, (offers.known (other x) g.0 h.0 i.0, (h.0, (i.0, subst (λ t. cdc_under x t c.post ≡ Some m) i.1 (own from l m c q.0 e)))))
      by (inr f) =
          let s = agree.strange x in
          let none : cdcs x m.token V ≡ [] = v-cdcs m.token ∙ ap (λ ms. ms ++ cdcs x m.token (unlanded the_link x past)) (s.completing m.token f) ∙ s.landing m.token f in
          absurd (true≢false (sym (ap (λ (r : Option CdcMessage). is_some r) (sym (q.1 m.token none) ∙ own from l m c q.0 e))))

  v-known : EachPlaced (Known x past setup.sockets) V
  v-known = placed-more (λ c. IsThere c × NoneUnder x V c) (Known x past setup.sockets) known-one V (placed-both IsThere (NoneUnder x V) V v-there (none-in x V))

  -- the CDC messages of one end
  abbrev H : ℕ → Half
  H s = half x (pipe_of setup payload 1 s past)

  one-count : (s : ℕ) (o : Offered) → offered (other x) s past ≡ Some o → length (cdcs x o.offer.token V) ≤ length (to_complete (H s))
  one-count s o f =
      let w : IsCarried (element_size setup) the_link x o.offer.token past (H s) = agree.carried x s o f in
      let c = agree.part_can_be s in
      let k : IsMarked (H s) = is-marked (terms_of setup) x (part payload 1 s past) c.feasible in
      let h : Half = H s in
      let a : length (cdcs x o.offer.token V) ≡ length (map (message (element_size setup) o.offer.token) (returning h)) + length (map (message (element_size setup) o.offer.token) (to_land h)) =
      ap (λ ms. length ms) (v-cdcs o.offer.token ∙ ap (λ ms. ms ++ cdcs x o.offer.token (unlanded the_link x past)) w.completing ∙ ap (λ ms. map (message (element_size setup) o.offer.token) (returning h) ++ ms) w.landing) ∙
      length-append (map (message (element_size setup) o.offer.token) (returning h)) (map (message (element_size setup) o.offer.token) (to_land h)) in
      let b : length (map (message (element_size setup) o.offer.token) (returning h)) ≡ length (returning h) = length-map (returning h) (message (element_size setup) o.offer.token) in
      let d : length (map (message (element_size setup) o.offer.token) (to_land h)) ≡ length (to_land h) = length-map (to_land h) (message (element_size setup) o.offer.token) in
      let e : length (to_land h) ≡ length h.sent - h.landed = length-drop h.landed h.sent in
      let g : length (returning h) ≤ h.landed - h.completed = simp length-take (omega arith) in
      let i : length (to_complete h) ≡ length h.sent - h.completed = length-drop h.completed h.sent in
      omega (arith, a, b, d, e, g, i, k.completed_landed, k.landed_sent)

  few-of : (s : ℕ) → length (to_complete (H s)) ≤ setup.depth
  few-of s =
      let c = agree.part_can_be s in
      let f : IsFlying setup.depth (H s) = is-flying (terms_of setup) x (part payload 1 s past) c.feasible in
      let o : IsOpenEnd (H s) = half-open (terms_of setup) x (part payload 1 s past) (part-open setup payload 1 s past n p (shaken setup one payload past n p)) in
      let h : Half = H s in
      let a = snapshots-all (to_complete h) (each-drop IsOpenSent h.completed h.sent o.sent) in
      let b : length h.flight ≡ length (snapshots (to_complete h)) = ap (λ ss. length ss) f.uncompleted in
      omega (arith, a, b, f.few)

  none-of : (s : ℕ) → is_up x s past ≡ false → length (to_complete (H s)) ≤ 0
  none-of s u =
      let h : Half = H s in
      let e : h.sent ≡ [] = idle (terms_of setup) x (part payload 1 s past) (part-open setup payload 1 s past n p (shaken setup one payload past n p)) (pipe-is-up (terms_of setup) x payload 1 s past ∙ u) in
      let i : length (to_complete h) ≡ length h.sent - h.completed = length-drop h.completed h.sent in
      let k : length h.sent ≡ 0 = ap (λ ms. length ms) e in
      omega (arith, i, k)

  abbrev Ups : ℕ → ℕ
  Ups s = if is_up x s past then 1 else 0

  count-by : (s : ℕ) (q : Option Offered) (u : Bool) → offered (other x) s past ≡ q → is_up x s past ≡ u → count_for x past setup.sockets q V ≤ setup.depth * (if u then 1 else 0)
  count-by s None u e f = omega arith
  count-by s (Some o) true e f = let a = one-count s o e in let b = few-of s in omega (arith, a, b)
  count-by s (Some o) false e f = let a = one-count s o e in let b = none-of s f in omega (arith, a, b)

  -- three posts at most for each snapshot that may be in flight, and one LLC message
  pub has-room : HasRoom setup x past
  has-room =
      let w = played setup one payload past n p in
      let world = w.world in
      let at = world.link in
      let a = all-under-way the_link x past in
      let b = batched-all (queue the_link x past) (queue-batched setup one payload x past n p) in
      let c : cdc_count (Posts V) ≤ sum_below (λ s. count_for x past setup.sockets (offered (other x) s past) V) setup.sockets = counted x past setup.sockets V v-known in
      let d : cdc_count (Posts V) ≡ cdc_count (queue the_link x past) = ap (λ ps. cdc_count ps) v-queue in
      let e = sum-more (λ s. count_for x past setup.sockets (offered (other x) s past) V) (λ s. setup.depth * Ups s) setup.sockets (λ s. count-by s (offered (other x) s past) (is_up x s past) refl refl) in
      let f = sum-times setup.depth Ups setup.sockets in
      let g : length (llc_waiting the_link x past) ≤ 1 = subst (λ ps. length ps ≤ 1) (sym (at.waiting x)) (few-waiting setup x w.stage) in
      omega (arith, a, b, c, d, e, f, g)
