-- What a wire carries under a token stays what the end has under way, whatever an entry does to both.
use Rattle.std.proofs.Common.{◌≡◌, ◌∙◌, ℕ, ◌+◌, ◌-◌, ◌≤◌, ◌<◌, List, [], ◌∷◌, ◌++◌, length, take, drop, map, filter_map, refl, ap, sym, true≢false, append-nil, arith, take-add, suc, zero, drop-drop, length-drop}
use Rattle.std.specs.Prelude.{Some, None, is_some, unwrap_or}
use Rattle.std.specs.List.{cons_option}
use Rattle.std.proofs.lemmas.List.{map-append, drop-append-le, take-append-le}
use Rattle.smc_num.specs.declared.Side.{Side}
use Rattle.smc_num.specs.declared.LinkId.{LinkId}
use Rattle.smc_num.specs.Names.{head}
use Rattle.cdc_wire.specs.declared.CdcMessage.{CdcMessage}
use Rattle.pipe_model.specs.declared.entry.Entry.{Entry}
use Rattle.pipe_model.specs.declared.sent.Sent.{Sent}
use Rattle.pipe_model.specs.Wires.{unlanded, uncompleted}
use Rattle.pipe_model.specs.Ends.{Half, to_land}
use Rattle.pipe_model.specs.Parts.{IsMarked}
use Rattle.world_core.specs.Wired.{cdc_under, cdcs, message, returning, IsCarried, HasGone}
use Rattle.world_core.specs.WireSteps.{Stays, LandsNow, CompletesNow, IsCdcOn, EachPost}
use Rattle.world_core.proofs.Carrying.{take-none, stays-unlanded, stays-uncompleted, lands-unlanded, lands-uncompleted, completes-unlanded, completes-uncompleted}

-- a list of messages that begins with one
pub record Begins {X Y : Type 0} (f : X → Y) (first : Y) (rest : List Y) (xs : List X) : Type 0 where
  pub x : X
  pub others : List X
  pub is : xs ≡ x ∷ others
  pub first_is : first ≡ f x
  pub rest_is : rest ≡ map f others

pub begins : {X Y : Type 0} (f : X → Y) (first : Y) (rest : List Y) (xs : List X) → first ∷ rest ≡ map f xs → Begins f first rest xs
begins f first rest [] e = absurd (true≢false (ap (λ ys. is_some (head ys)) e))
begins f first rest (x ∷ xs) e = record { x = x; others = xs; is = refl; first_is = ap (λ ys. unwrap_or (head ys) first) e; rest_is = ap (λ ys. drop 1 ys) e }

pub some-left : (i : ℕ) (ms : List Sent) (m : Sent) (rest : List Sent) → drop i ms ≡ m ∷ rest → i + 1 ≤ length ms
some-left i ms m rest e =
    let n : length (drop i ms) ≡ length ms - i = length-drop i ms in
    let o : length (drop i ms) ≡ length (m ∷ rest) = ap (λ ns. length ns) e in
    omega (arith, n, o)

-- messages sent, of which some have landed and some have completed
module _ (ms more : List Sent) (l c : ℕ) where
  pub landing-grows : l ≤ length ms → drop l (ms ++ more) ≡ drop l ms ++ more
  landing-grows o = drop-append-le l ms more o

  pub returning-same : l ≤ length ms → c ≤ l → take (l - c) (drop c (ms ++ more)) ≡ take (l - c) (drop c ms)
  returning-same o p =
      let n : length (drop c ms) ≡ length ms - c = length-drop c ms in
      ap (λ ns. take (l - c) ns) (drop-append-le c ms more (omega (arith, o, p))) ∙ take-append-le (l - c) (drop c ms) more (omega (arith, n, o, p))

pub landing-next : (ms rest : List Sent) (m : Sent) (l : ℕ) → drop l ms ≡ m ∷ rest → drop (l + 1) ms ≡ rest
landing-next ms rest m l e =
    sym (drop-drop 1 l ms) ∙ ap (λ ns. drop 1 ns) e

pub returning-next : (ms rest : List Sent) (m : Sent) (l c : ℕ) → c ≤ l → drop l ms ≡ m ∷ rest → take (l + 1 - c) (drop c ms) ≡ take (l - c) (drop c ms) ++ m ∷ []
returning-next ms rest m l c o e =
    let f : l + 1 - c ≡ (l - c) + 1 = omega (arith, o) in
    let g : c + (l - c) ≡ l = omega (arith, o) in
    let h : drop (l - c) (drop c ms) ≡ m ∷ rest = drop-drop (l - c) c ms ∙ ap (λ n. drop n ms) g ∙ e in
    ap (λ n. take n (drop c ms)) f ∙ take-add (l - c) 1 (drop c ms) ∙ ap (λ ns. take (l - c) (drop c ms) ++ take 1 ns) h ∙ ap (λ ns. take (l - c) (drop c ms) ++ m ∷ ns) (take-none rest)

none-taken : (n : ℕ) (m : Sent) (rest : List Sent) → take n [] ≡ m ∷ rest → ⊥
none-taken zero m rest e = true≢false (sym (ap (λ ns. is_some (head ns)) e))
none-taken (suc n) m rest e = true≢false (sym (ap (λ ns. is_some (head ns)) e))

taken-suc : {X : Type 0} (n : ℕ) (x : X) (xs others rest : List X) (y : X) → take (suc n) (x ∷ xs) ≡ y ∷ rest → take n xs ≡ rest
taken-suc n x xs others rest y e = ap (λ ys. drop 1 ys) e

pub returned-next : (ms rest : List Sent) (m : Sent) (l c : ℕ) → c < l → take (l - c) (drop c ms) ≡ m ∷ rest → take (l - (c + 1)) (drop (c + 1) ms) ≡ rest
returned-next ms rest m l c o e = by (drop c ms) refl
  where
    by : (ns : List Sent) → drop c ms ≡ ns → take (l - (c + 1)) (drop (c + 1) ms) ≡ rest
    by [] f = absurd (none-taken (l - c) m rest (sym (ap (λ ns. take (l - c) ns) f) ∙ e))
    by (k ∷ ns) f =
        let d : drop (c + 1) ms ≡ ns = landing-next ms ns k c f in
        let n : l - c ≡ suc (l - (c + 1)) = omega (arith, o) in
        ap (λ q. take (l - (c + 1)) q) d ∙ taken-suc (l - (c + 1)) k ns [] rest m (ap (λ i. take i (k ∷ ns)) (sym n) ∙ sym (ap (λ q. take (l - c) q) f) ∙ e)

module _ (size : ℕ) (link : LinkId) (x : Side) (token : ℕ) (e : Entry) (past : List Entry) (h k : Half) (on : EachPost (IsCdcOn link) e.posts) (mark : IsMarked h) (carried : IsCarried size link x token past h) where
  abbrev Spelled : List Sent → List CdcMessage
  Spelled ms = map (message size token) ms

  abbrev PostsJust : List Sent → Type 0
  PostsJust more = filter_map (cdc_under x token) e.posts ≡ Spelled more

  -- what waits to land, with what is posted
  waits : (left : List CdcMessage) (l : ℕ) (more : List Sent) → l ≤ length h.sent → left ≡ Spelled (drop l h.sent) → PostsJust more → left ++ filter_map (cdc_under x token) e.posts ≡ Spelled (drop l (h.sent ++ more))
  waits left l more o f p =
      ap (λ ms. left ++ ms) p ∙ ap (λ ms. ms ++ Spelled more) f ∙ sym (map-append (message size token) (drop l h.sent) more) ∙ ap (λ ms. Spelled ms) (sym (landing-grows h.sent more l h.completed o))

  -- of the end afterwards
  to-land-is : (l c : ℕ) (g : HasGone h k l c) → drop l (h.sent ++ g.more) ≡ to_land k
  to-land-is l c g = ap (λ ms. drop l ms) (sym g.sent_is) ∙ ap (λ n. drop n k.sent) (sym g.landed_is)

  returning-is : (l c : ℕ) (g : HasGone h k l c) → take (l - c) (drop c (h.sent ++ g.more)) ≡ returning k
  returning-is l c g =
      ap (λ ms. take (l - c) (drop c ms)) (sym g.sent_is) ∙ ap (λ n. take (n - c) (drop c k.sent)) (sym g.landed_is) ∙ ap (λ n. take (k.landed - n) (drop n k.sent)) (sym g.completed_is)

  same-returning : (g : HasGone h k h.landed h.completed) → returning h ≡ returning k
  same-returning g = sym (returning-same h.sent g.more h.landed h.completed mark.landed_sent mark.completed_landed) ∙ returning-is h.landed h.completed g

  -- nothing of the end lands or completes
  pub carried-stays : (g : HasGone h k h.landed h.completed) → PostsJust g.more → Stays link x e past → IsCarried size link x token (e ∷ past) k
  carried-stays g p s = record {
    landing = stays-unlanded x token link e past on s ∙ waits (cdcs x token (unlanded link x past)) h.landed g.more mark.landed_sent carried.landing p ∙ ap (λ ms. Spelled ms) (to-land-is h.landed h.completed g);
    completing = stays-uncompleted x token link e past on s ∙ carried.completing ∙ ap (λ ms. Spelled ms) (same-returning g);
  }

  module _ (l : LandsNow link x e past) where
    waiting-is : cons_option (cdc_under x token l.first.post) (cdcs x token l.rest) ≡ Spelled (to_land h)
    waiting-is = ap (λ ps. cdcs x token ps) (sym l.waiting) ∙ carried.landing

    -- a post lands that is not the end's
    pub carried-passes : (g : HasGone h k h.landed h.completed) → PostsJust g.more → cdc_under x token l.first.post ≡ None → IsCarried size link x token (e ∷ past) k
    carried-passes g p n = record {
      landing = lands-unlanded x token link e past on l ∙ waits (cdcs x token l.rest) h.landed g.more mark.landed_sent (ap (λ o. cons_option o (cdcs x token l.rest)) (sym n) ∙ waiting-is) p ∙
          ap (λ ms. Spelled ms) (to-land-is h.landed h.completed g);
      completing = lands-uncompleted x token link e past on l ∙ ap (λ o. cdcs x token (uncompleted link x past) ++ cons_option o []) n ∙ append-nil (cdcs x token (uncompleted link x past)) ∙ carried.completing ∙
          ap (λ ms. Spelled ms) (same-returning g);
    }

    -- the end's next message is there
    pub next-lands : (m : CdcMessage) → cdc_under x token l.first.post ≡ Some m → Begins (message size token) m (cdcs x token l.rest) (to_land h)
    next-lands m n = begins (message size token) m (cdcs x token l.rest) (to_land h) (ap (λ o. cons_option o (cdcs x token l.rest)) (sym n) ∙ waiting-is)

    -- it lands
    pub carried-lands : (m : CdcMessage) (n : cdc_under x token l.first.post ≡ Some m) (g : HasGone h k (h.landed + 1) h.completed) → PostsJust g.more → IsCarried size link x token (e ∷ past) k
    carried-lands m n g p =
        let b = next-lands m n in
        let room : h.landed + 1 ≤ length h.sent = some-left h.landed h.sent b.x b.others b.is in
        let rest : drop (h.landed + 1) h.sent ≡ b.others = landing-next h.sent b.others b.x h.landed b.is in
        record {
          landing = lands-unlanded x token link e past on l ∙ waits (cdcs x token l.rest) (h.landed + 1) g.more room (b.rest_is ∙ ap (λ ms. Spelled ms) (sym rest)) p ∙
              ap (λ ms. Spelled ms) (to-land-is (h.landed + 1) h.completed g);
          completing = lands-uncompleted x token link e past on l ∙ ap (λ o. cdcs x token (uncompleted link x past) ++ cons_option o []) n ∙
              ap (λ ms. ms ++ m ∷ []) carried.completing ∙ ap (λ q. Spelled (returning h) ++ q ∷ []) b.first_is ∙ sym (map-append (message size token) (returning h) (b.x ∷ [])) ∙
              ap (λ ms. Spelled ms) (sym (returning-next h.sent b.others b.x h.landed h.completed mark.completed_landed b.is)) ∙
              ap (λ ms. Spelled ms) (sym (returning-same h.sent g.more (h.landed + 1) h.completed room (omega (arith, mark.completed_landed)))) ∙
              ap (λ ms. Spelled ms) (returning-is (h.landed + 1) h.completed g);
        }

  module _ (l : CompletesNow link x e past) where
    returning-first : cons_option (cdc_under x token l.first.post) (cdcs x token l.rest) ≡ Spelled (returning h)
    returning-first = ap (λ ps. cdcs x token ps) (sym l.waiting) ∙ carried.completing

    -- a post completes that is not the end's
    pub carried-leaves : (g : HasGone h k h.landed h.completed) → PostsJust g.more → cdc_under x token l.first.post ≡ None → IsCarried size link x token (e ∷ past) k
    carried-leaves g p n = record {
      landing = completes-unlanded x token link e past on l ∙ waits (cdcs x token (unlanded link x past)) h.landed g.more mark.landed_sent carried.landing p ∙ ap (λ ms. Spelled ms) (to-land-is h.landed h.completed g);
      completing = completes-uncompleted x token link e past on l ∙ ap (λ o. cons_option o (cdcs x token l.rest)) (sym n) ∙ returning-first ∙ ap (λ ms. Spelled ms) (same-returning g);
    }

    -- the end's oldest message is there
    pub next-completes : (m : CdcMessage) → cdc_under x token l.first.post ≡ Some m → Begins (message size token) m (cdcs x token l.rest) (returning h)
    next-completes m n = begins (message size token) m (cdcs x token l.rest) (returning h) (ap (λ o. cons_option o (cdcs x token l.rest)) (sym n) ∙ returning-first)

    -- it completes
    pub carried-completes : (m : CdcMessage) (n : cdc_under x token l.first.post ≡ Some m) (g : HasGone h k h.landed (h.completed + 1)) → PostsJust g.more → h.completed < h.landed → IsCarried size link x token (e ∷ past) k
    carried-completes m n g p o =
        let b = next-completes m n in
        record {
          landing = completes-unlanded x token link e past on l ∙ waits (cdcs x token (unlanded link x past)) h.landed g.more mark.landed_sent carried.landing p ∙
              ap (λ ms. Spelled ms) (to-land-is h.landed (h.completed + 1) g);
          completing = completes-uncompleted x token link e past on l ∙ b.rest_is ∙ ap (λ ms. Spelled ms) (sym (returned-next h.sent b.others b.x h.landed h.completed o b.is)) ∙
              ap (λ ms. Spelled ms) (sym (returning-same h.sent g.more h.landed (h.completed + 1) mark.landed_sent (omega (arith, o)))) ∙
              ap (λ ms. Spelled ms) (returning-is h.landed (h.completed + 1) g);
        }
