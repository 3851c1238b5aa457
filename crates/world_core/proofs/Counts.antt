-- How many posts are under way on the one link: three for each snapshot that may be in flight, and one LLC message.
use Rattle.std.proofs.Common.{◌≡◌, ◌∙◌, ◌==◌, inl, inr, ℕ, ◌+◌, ◌≤◌, ◌<◌, Bool, true, false, not, List, [], ◌∷◌, ◌++◌, length, filter, filter_map, refl, ap, sym, subst, ◌&&◌, true≢false, arith, length-append, suc, zero, eqb-true, eq-eqb}
use Rattle.std.specs.Prelude.{Option, Some, None, cond}
use Rattle.std.specs.List.{cons_option}
use Rattle.std.proofs.lemmas.List.{length-map}
use Rattle.std.proofs.lemmas.List.Elements.{filter-append}
use Rattle.std.proofs.lemmas.List.Filters.{length-filter_both}
use Rattle.smc_num.specs.declared.Side.{Side}
use Rattle.smc_num.specs.declared.Side.TheVariants.{A, B}
use Rattle.smc_num.specs.declared.LinkId.{LinkId}
use Rattle.smc_num.specs.Names.{other, same_side}
use Rattle.cdc_wire.specs.declared.CdcMessage.{CdcMessage}
use Rattle.pipe_model.specs.declared.setup.Setup.{Setup}
use Rattle.pipe_model.specs.declared.post.Post.{Post}
use Rattle.pipe_model.specs.declared.post.Post.TheVariants.{Write, Cdc, Llc, Clc}
use Rattle.pipe_model.specs.declared.post.Placed.{Placed}
use Rattle.pipe_model.specs.declared.entry.Entry.{Entry}
use Rattle.pipe_model.specs.Words.{element_size}
use Rattle.pipe_model.specs.History.{Offered, offered}
use Rattle.pipe_model.specs.Wires.{is_on, completes_later, unlanded, uncompleted}
use Rattle.pipe_model.specs.Posts.{connection_posts}
use Rattle.pipe_model.specs.Lawful.{draft}
use Rattle.world_core.specs.Played.{IsOneLink, IsPlayed}
use Rattle.world_core.specs.OneLink.{the_link, Stage, NoLink, Begun, Made, Asking, LiveAtA, LiveAtBoth, llc_of, llc_in, llc_waiting, waiting_at}
use Rattle.world_core.specs.Room.{sum_below}
use Rattle.world_core.specs.Wired.{cdc_under, cdcs}
use Rattle.world_core.specs.WireSteps.{EachPost, EachPlaced}
use Rattle.world_core.specs.Agreement.{PostsFew}
use Rattle.world_core.proofs.Ways.{way}
use Rattle.world_core.proofs.AskedPosts.{IsControl, asked-control}
use Rattle.world_core.proofs.Heads.{unlanded-there}
use Rattle.world_core.proofs.PlayedWorlds.{played}
use Rattle.world_core.proofs.Shaken.{only-link}
use Rattle.world_core.proofs.Handshaken.{one-batch}
use Rattle.world_core.proofs.Batched.{cdc_count, AreBatched, ours, batch-ours, Posts, queue, queue-step}
use Rattle.world_core.proofs.Plain.{and-false}

-- of handshake and flows nothing stays in the queue
control-none : (link : LinkId) (x : Side) (ps : List Post) → EachPost IsControl ps → ours link x ps ≡ []
control-none link x [] p = refl
control-none link x (Llc from l m ∷ ps) p = ap (λ b. cond b (Llc from l m ∷ ours link x ps) (ours link x ps)) (and-false (is_on link x (Llc from l m))) ∙ control-none link x ps p.1
control-none link x (Clc from s l m ∷ ps) p =
    ap (λ b. cond (b && true) (Clc from s l m ∷ ours link x ps) (ours link x ps)) (and-false (same_side x from)) ∙ control-none link x ps p.1
control-none link x (Write from l key address len ∷ ps) p = absurd p.0
control-none link x (Cdc from l m ∷ ps) p = absurd p.0

module _ (setup : Setup) (one : IsOneLink setup) (payload : List ℕ) (x : Side) where
  new-batched : (e : Entry) (past : List Entry) (n : ℕ) (p : IsPlayed setup payload (e ∷ past) n) → AreBatched (ours the_link x e.posts)
  new-batched e past n p =
      let m = p.1 in
      let d : Entry = draft setup payload past p.0 e.event in
      let none = control-none the_link x d.posts (asked-control setup payload past e.event d.reply m.built) in
      subst (λ ps. AreBatched ps) (sym (ap (λ ps. ours the_link x ps) m.posts ∙ filter-append (λ q. is_on the_link x q && completes_later q) d.posts (connection_posts setup payload d past) ∙ ap (λ ps. ps ++ ours the_link x (connection_posts setup payload d past)) none))
      (by (connection_posts setup payload d past) refl (one-batch setup one payload e past n p))
    where
      by : (ps : List Post) → connection_posts setup payload (draft setup payload past p.0 e.event) past ≡ ps → PostsFew setup payload (draft setup payload past p.0 e.event) past → AreBatched (ours the_link x (connection_posts setup payload (draft setup payload past p.0 e.event) past))
      by ps h (inl f) = subst (λ qs. AreBatched (ours the_link x qs)) (sym f) tt
      by ps h (inr b) = subst (λ qs. AreBatched (ours the_link x qs)) (sym b.posts_are) (batch-ours the_link x (element_size setup) b.x b.offer (draft setup payload past p.0 e.event ∷ past) b.sent)

  pub queue-batched : (past : List Entry) (n : ℕ) → IsPlayed setup payload past n → AreBatched (queue the_link x past)
  queue-batched [] n p = tt
  queue-batched (e ∷ past) n p =
      let w = played setup one payload past p.0 p.3 in
      let world = w.world in
      queue-step the_link x e past payload (way payload past e setup p.0 x (only-link setup w.stage past world.link) p.1) (new-batched e past n p) (queue-batched past p.0 p.3)

-- LLC messages that have not landed: one at most
pub few-waiting : (setup : Setup) (x : Side) (stage : Stage) → length (waiting_at setup x stage) ≤ 1
few-waiting setup A NoLink = omega arith
few-waiting setup B NoLink = omega arith
few-waiting setup A (Begun s) = omega arith
few-waiting setup B (Begun s) = omega arith
few-waiting setup A (Made s) = omega arith
few-waiting setup B (Made s) = omega arith
few-waiting setup A (Asking s qp) = omega arith
few-waiting setup B (Asking s qp) = omega arith
few-waiting setup A (LiveAtA s qp) = omega arith
few-waiting setup B (LiveAtA s qp) = omega arith
few-waiting setup A (LiveAtBoth s) = omega arith
few-waiting setup B (LiveAtBoth s) = omega arith

on-wire : (link : LinkId) (x : Side) (p : Post) → is_on link x p ≡ true → (ps qs : List Post) → length ps ≡ length qs → length (cond (not (completes_later p)) (p ∷ ps) ps) ≡ length (cons_option (llc_of p) qs)
on-wire link x (Write from l key address len) i ps qs e = e
on-wire link x (Cdc from l m) i ps qs e = e
on-wire link x (Llc from l m) i ps qs e = ap (λ n. suc n) e
on-wire link x (Clc from s l m) i ps qs e = e

llc-count : (link : LinkId) (x : Side) (cs : List Placed) → EachPlaced (λ c. is_on link x c.post ≡ true) cs → length (filter (λ p. not (completes_later p)) (Posts cs)) ≡ length (filter_map llc_in cs)
llc-count link x [] p = refl
llc-count link x (c ∷ cs) p = on-wire link x c.post p.0 (filter (λ q. not (completes_later q)) (Posts cs)) (filter_map llc_in cs) (llc-count link x cs p.1)

-- all posts under way are those of the queue and the LLC messages
pub all-under-way : (link : LinkId) (x : Side) (past : List Entry) → length (unlanded link x past ++ uncompleted link x past) ≡ length (queue link x past) + length (llc_waiting link x past)
all-under-way link x past =
    let u : List Placed = unlanded link x past in
    let c : List Placed = uncompleted link x past in
    let a : length (u ++ c) ≡ length u + length c = length-append u c in
    let b : length (Posts c ++ filter completes_later (Posts u)) ≡ length (Posts c) + length (filter completes_later (Posts u)) = length-append (Posts c) (filter completes_later (Posts u)) in
    let d : length (filter completes_later (Posts u)) + length (filter (λ p. not (completes_later p)) (Posts u)) ≡ length (Posts u) = length-filter_both completes_later (λ p. not (completes_later p)) (λ p. refl) (Posts u) in
    let e : length (Posts u) ≡ length u = length-map u (λ (k : Placed). k.post) in
    let f : length (Posts c) ≡ length c = length-map c (λ (k : Placed). k.post) in
    let g = llc-count link x u (unlanded-there link x past) in
    omega (arith, a, b, d, e, f, g)

-- sums
pub sum-more : (f g : ℕ → ℕ) (n : ℕ) → ((s : ℕ) → f s ≤ g s) → sum_below f n ≤ sum_below g n
sum-more f g zero l = omega arith
sum-more f g (suc n) l = let a = sum-more f g n l in let b = l n in omega (arith, a, b)

less : (a b : ℕ) → a < suc b → ((a ≡ b) → ⊥) → a < b
less a b i j = omega (arith, i, j)

sum-last : (f g : ℕ → ℕ) (n s0 : ℕ) → ((s : ℕ) → f s ≤ g s) → s0 < suc n → f s0 + 1 ≤ g s0 → (s0 < n → sum_below f n + 1 ≤ sum_below g n) → (b : Bool) → (s0 == n) ≡ b → sum_below f n + f n + 1 ≤ sum_below g n + g n
sum-last f g n s0 l m o again true e =
    let a : f n + 1 ≤ g n = subst (λ k. f k + 1 ≤ g k) (eqb-true s0 n e) o in
    let b = sum-more f g n l in
    omega (arith, a, b)
sum-last f g n s0 l m o again false e =
    let a = again (less s0 n m (λ h. true≢false (sym (eq-eqb s0 n h) ∙ e))) in
    let b = l n in
    omega (arith, a, b)

sum-one : (f g : ℕ → ℕ) (n s0 : ℕ) → ((s : ℕ) → f s ≤ g s) → s0 < n → f s0 + 1 ≤ g s0 → sum_below f n + 1 ≤ sum_below g n
sum-one f g zero s0 l m o = absurd (omega (arith, m))
sum-one f g (suc n) s0 l m o = sum-last f g n s0 l m o (λ i. sum-one f g n s0 l i o) (s0 == n) refl

-- a CDC message is one of some end
module _ (x : Side) (past : List Entry) (n : ℕ) where
  abbrev pub count_for : Option Offered → List Placed → ℕ
  count_for None cs = 0
  count_for (Some o) cs = length (cdcs x o.offer.token cs)

  abbrev pub Known : Placed → Type 0
  Known c = (from : Side) (l : LinkId) (m : CdcMessage) → c.post ≡ Cdc from l m → (s : ℕ) × ((s < n) × ((o : Offered) × ((offered (other x) s past ≡ Some o) × (cdc_under x o.offer.token c.post ≡ Some m))))

  one-more-by : (o : Option CdcMessage) (ms : List CdcMessage) → length ms ≤ length (cons_option o ms)
  one-more-by None ms = omega arith
  one-more-by (Some m) ms = omega arith

  count-grows : (o : Option Offered) (c : Placed) (cs : List Placed) → count_for o cs ≤ count_for o (c ∷ cs)
  count-grows None c cs = omega arith
  count-grows (Some o) c cs = one-more-by (cdc_under x o.offer.token c.post) (cdcs x o.offer.token cs)

  count-one : (q : Option Offered) (o : Offered) (c : Placed) (cs : List Placed) (m : CdcMessage) → q ≡ Some o → cdc_under x o.offer.token c.post ≡ Some m → count_for q cs + 1 ≤ count_for q (c ∷ cs)
  count-one q o c cs m e f =
      let a : count_for q cs ≡ length (cdcs x o.offer.token cs) = ap (λ r. count_for r cs) e in
      let b : count_for q (c ∷ cs) ≡ length (m ∷ cdcs x o.offer.token cs) = ap (λ r. count_for r (c ∷ cs)) e ∙ ap (λ r. length (cons_option r (cdcs x o.offer.token cs))) f in
      omega (arith, a, b)

  abbrev Total : List Placed → ℕ
  Total cs = sum_below (λ s. count_for (offered (other x) s past) cs) n

  counted-by : (c : Placed) (cs : List Placed) (p : Post) → c.post ≡ p → Known c → cdc_count (Posts cs) ≤ Total cs → cdc_count (p ∷ Posts cs) ≤ Total (c ∷ cs)
  counted-by c cs (Cdc from l m) e k b =
      let q = k from l m e in
      let s : ℕ = q.0 in
      let r = q.1 in
      let o = r.1 in
      let t = o.1 in
      let a = sum-one (λ i. count_for (offered (other x) i past) cs) (λ i. count_for (offered (other x) i past) (c ∷ cs)) n s (λ i. count-grows (offered (other x) i past) c cs) r.0 (count-one (offered (other x) s past) o.0 c cs m t.0 t.1) in
      omega (arith, a, b)
  counted-by c cs (Write from l key address len) e k b = let a = sum-more (λ i. count_for (offered (other x) i past) cs) (λ i. count_for (offered (other x) i past) (c ∷ cs)) n (λ i. count-grows (offered (other x) i past) c cs) in omega (arith, a, b)
  counted-by c cs (Llc from l m) e k b = let a = sum-more (λ i. count_for (offered (other x) i past) cs) (λ i. count_for (offered (other x) i past) (c ∷ cs)) n (λ i. count-grows (offered (other x) i past) c cs) in omega (arith, a, b)
  counted-by c cs (Clc from s l m) e k b = let a = sum-more (λ i. count_for (offered (other x) i past) cs) (λ i. count_for (offered (other x) i past) (c ∷ cs)) n (λ i. count-grows (offered (other x) i past) c cs) in omega (arith, a, b)

  -- so there are no more than those of all ends together
  pub counted : (cs : List Placed) → EachPlaced Known cs → cdc_count (Posts cs) ≤ Total cs
  counted [] p = zero-below n
    where
      zero-below : (k : ℕ) → 0 ≤ sum_below (λ s. count_for (offered (other x) s past) []) k
      zero-below k = omega arith
  counted (c ∷ cs) p = counted-by c cs c.post refl p.0 (counted cs p.1)
