-- One link and one end keep step, whatever the entry posts elsewhere: what lands goes over, what completes leaves, what is swallowed leaves at once.
use Rattle.std.proofs.Common.{List, [], ap, append-nil, arith, drop, filter, length, length-drop, map, refl, suc, sym, take, zero, ℕ, ◌++◌, ◌+◌, ◌-◌, ◌<◌, ◌∙◌, ◌∷◌, ◌≡◌, ◌≤◌}
use Rattle.std.specs.List.{cons_option}
use Rattle.pipe_model.specs.declared.sent.Sent.{Sent}
use Rattle.std.proofs.lemmas.List.{map-append}
use Rattle.std.specs.Prelude.{None, Some}
use Rattle.history_laws.specs.Words.{CdcMessage, Entry, Half, IsMarked, LinkId, Placed, Side, completes_later, is_on, next_number, numbered, to_land, uncompleted, unlanded}
use Rattle.history_laws.specs.Wires.{CompletesNow, HasGone, IsCarried, LandsNow, Stays, cdc_under, cdcs, completing_now, landing_now, leaving, message, returning}
use Rattle.history_laws.proofs.Basics.{Begins, begins, cdcs-append, drop-none, landing-grows, landing-next, one-later, returned-next, returning-next, returning-same, some-left, take-none}
use Rattle.history_laws.proofs.Wires.Ways.{SwallowedNow}

-- the CDC messages of a side under a token that an entry posts on a link
abbrev pub news_on : LinkId → Side → ℕ → Entry → List Entry → List CdcMessage
news_on link x token e past = cdcs x token (filter (λ c. is_on link x c.post) (numbered (next_number past) 1 e.posts))

module _ (x : Side) (token : ℕ) (link : LinkId) (e : Entry) (past : List Entry) where
  abbrev News : List CdcMessage
  News = news_on link x token e past

  unlanded-by : (left : List Placed) → drop (leaving link x e past) (unlanded link x past) ≡ left → cdcs x token (unlanded link x (e ∷ past)) ≡ cdcs x token left ++ News
  unlanded-by left d =
      ap (λ ps. cdcs x token (ps ++ filter (λ c. is_on link x c.post) (numbered (next_number past) 1 e.posts))) d ∙
      cdcs-append x token left (filter (λ c. is_on link x c.post) (numbered (next_number past) 1 e.posts))

  uncompleted-by : (left over : List Placed) → drop (completing_now link x e past) (uncompleted link x past) ≡ left → take (landing_now link x e past) (unlanded link x past) ≡ over →
      cdcs x token (uncompleted link x (e ∷ past)) ≡ cdcs x token left ++ cdcs x token (filter (λ c. completes_later c.post) over)
  uncompleted-by left over d f =
      ap (λ ps. cdcs x token (ps ++ filter (λ c. completes_later c.post) (take (landing_now link x e past) (unlanded link x past)))) d ∙
      ap (λ ps. cdcs x token (left ++ filter (λ c. completes_later c.post) ps)) f ∙
      cdcs-append x token left (filter (λ c. completes_later c.post) over)

  pub stays-unlanded : Stays link x e past → cdcs x token (unlanded link x (e ∷ past)) ≡ cdcs x token (unlanded link x past) ++ News
  stays-unlanded s = unlanded-by (unlanded link x past) (ap (λ n. drop n (unlanded link x past)) s.leaves ∙ drop-none (unlanded link x past))

  pub stays-uncompleted : Stays link x e past → cdcs x token (uncompleted link x (e ∷ past)) ≡ cdcs x token (uncompleted link x past)
  stays-uncompleted s =
      uncompleted-by (uncompleted link x past) [] (ap (λ n. drop n (uncompleted link x past)) s.completes ∙ drop-none (uncompleted link x past)) (ap (λ n. take n (unlanded link x past)) s.lands ∙ take-none (unlanded link x past)) ∙
      append-nil (cdcs x token (uncompleted link x past))

  pub lands-unlanded : (l : LandsNow link x e past) → cdcs x token (unlanded link x (e ∷ past)) ≡ cdcs x token l.rest ++ News
  lands-unlanded l = unlanded-by l.rest (ap (λ n. drop n (unlanded link x past)) l.leaves ∙ ap (λ ps. drop 1 ps) l.waiting)

  pub lands-uncompleted : (l : LandsNow link x e past) → cdcs x token (uncompleted link x (e ∷ past)) ≡ cdcs x token (uncompleted link x past) ++ cons_option (cdc_under x token l.first.post) []
  lands-uncompleted l =
      uncompleted-by (uncompleted link x past) (l.first ∷ []) (ap (λ n. drop n (uncompleted link x past)) l.completes ∙ drop-none (uncompleted link x past))
      (ap (λ n. take n (unlanded link x past)) l.lands ∙ ap (λ ps. take 1 ps) l.waiting ∙ ap (λ ps. l.first ∷ ps) (take-none l.rest)) ∙
      ap (λ ms. cdcs x token (uncompleted link x past) ++ ms) (one-later x token l.first l.first.post refl)

  pub completes-unlanded : (l : CompletesNow link x e past) → cdcs x token (unlanded link x (e ∷ past)) ≡ cdcs x token (unlanded link x past) ++ News
  completes-unlanded l = unlanded-by (unlanded link x past) (ap (λ n. drop n (unlanded link x past)) l.leaves ∙ drop-none (unlanded link x past))

  pub completes-uncompleted : (l : CompletesNow link x e past) → cdcs x token (uncompleted link x (e ∷ past)) ≡ cdcs x token l.rest
  completes-uncompleted l =
      uncompleted-by l.rest [] (ap (λ n. drop n (uncompleted link x past)) l.completes ∙ ap (λ ps. drop 1 ps) l.waiting) (ap (λ n. take n (unlanded link x past)) l.lands ∙ take-none (unlanded link x past)) ∙
      append-nil (cdcs x token l.rest)

  pub swallowed-unlanded : (l : SwallowedNow link x e past) → cdcs x token (unlanded link x (e ∷ past)) ≡ cdcs x token l.rest ++ News
  swallowed-unlanded l = unlanded-by l.rest (ap (λ n. drop n (unlanded link x past)) l.leaves ∙ ap (λ ps. drop 1 ps) l.waiting)

  pub swallowed-uncompleted : (l : SwallowedNow link x e past) → cdcs x token (uncompleted link x (e ∷ past)) ≡ cdcs x token (uncompleted link x past)
  swallowed-uncompleted l =
      uncompleted-by (uncompleted link x past) [] (ap (λ n. drop n (uncompleted link x past)) l.completes ∙ drop-none (uncompleted link x past)) (ap (λ n. take n (unlanded link x past)) l.lands ∙ take-none (unlanded link x past)) ∙
      append-nil (cdcs x token (uncompleted link x past))

-- what is returning is so many
pub returning-long : (h : Half) → IsMarked h → length (returning h) ≡ h.landed - h.completed
returning-long h m = by (h.landed - h.completed) (drop h.completed h.sent) (omega (arith, m.landed_sent, m.completed_landed, length-drop h.completed h.sent))
  where
    by : (n : ℕ) (ms : List Sent) → n ≤ length ms → length (take n ms) ≡ n
    by zero [] o = refl
    by zero (m ∷ ms) o = refl
    by (suc n) [] o = absurd (omega (arith, o))
    by (suc n) (m ∷ ms) o = ap (λ k. suc k) (by n ms (omega (arith, o)))

module _ (size : ℕ) (link : LinkId) (x : Side) (token : ℕ) (e : Entry) (past : List Entry) (h k : Half) (mark : IsMarked h) (carried : IsCarried size link x token past h) where
  abbrev Spelled : List Sent → List CdcMessage
  Spelled ms = map (message size token) ms

  abbrev PostsJust : List Sent → Type 0
  PostsJust more = news_on link x token e past ≡ Spelled more

  -- what waits to land, with what is posted
  waits : (left : List CdcMessage) (l : ℕ) (more : List Sent) → l ≤ length h.sent → left ≡ Spelled (drop l h.sent) → PostsJust more → left ++ news_on link x token e past ≡ Spelled (drop l (h.sent ++ more))
  waits left l more o f p =
      ap (λ ms. left ++ ms) p ∙ ap (λ ms. ms ++ Spelled more) f ∙ sym (map-append (message size token) (drop l h.sent) more) ∙ ap (λ ms. Spelled ms) (sym (landing-grows h.sent more l h.completed o))

  to-land-is : (l c : ℕ) (g : HasGone h k l c) → drop l (h.sent ++ g.more) ≡ to_land k
  to-land-is l c g = ap (λ ms. drop l ms) (sym g.sent_is) ∙ ap (λ n. drop n k.sent) (sym g.landed_is)

  returning-is : (l c : ℕ) (g : HasGone h k l c) → take (l - c) (drop c (h.sent ++ g.more)) ≡ returning k
  returning-is l c g =
      ap (λ ms. take (l - c) (drop c ms)) (sym g.sent_is) ∙ ap (λ n. take (n - c) (drop c k.sent)) (sym g.landed_is) ∙ ap (λ n. take (k.landed - n) (drop n k.sent)) (sym g.completed_is)

  same-returning : (g : HasGone h k h.landed h.completed) → returning h ≡ returning k
  same-returning g = sym (returning-same h.sent g.more h.landed h.completed mark.landed_sent mark.completed_landed) ∙ returning-is h.landed h.completed g

  -- nothing of the end lands or completes
  pub carried-stays : (g : HasGone h k h.landed h.completed) → PostsJust g.more → Stays link x e past → IsCarried size link x token (e ∷ past) k
  carried-stays g p s = record {
    landing = stays-unlanded x token link e past s ∙ waits (cdcs x token (unlanded link x past)) h.landed g.more mark.landed_sent carried.landing p ∙ ap (λ ms. Spelled ms) (to-land-is h.landed h.completed g);
    completing = stays-uncompleted x token link e past s ∙ carried.completing ∙ ap (λ ms. Spelled ms) (same-returning g);
  }

  module _ (first : Placed) (rest : List Placed) (waiting : unlanded link x past ≡ first ∷ rest) where
    waiting-is : cons_option (cdc_under x token first.post) (cdcs x token rest) ≡ Spelled (to_land h)
    waiting-is = ap (λ ps. cdcs x token ps) (sym waiting) ∙ carried.landing

    -- the end's next message is there
    pub next-lands : (m : CdcMessage) → cdc_under x token first.post ≡ Some m → Begins (message size token) m (cdcs x token rest) (to_land h)
    next-lands m n = begins (message size token) m (cdcs x token rest) (to_land h) (ap (λ o. cons_option o (cdcs x token rest)) (sym n) ∙ waiting-is)

    -- a post leaves that is not the end's
    rest-waits : (g : HasGone h k h.landed h.completed) → PostsJust g.more → cdc_under x token first.post ≡ None → cdcs x token rest ++ news_on link x token e past ≡ Spelled (to_land k)
    rest-waits g p n = waits (cdcs x token rest) h.landed g.more mark.landed_sent (ap (λ o. cons_option o (cdcs x token rest)) (sym n) ∙ waiting-is) p ∙ ap (λ ms. Spelled ms) (to-land-is h.landed h.completed g)

    -- the end's next message leaves
    next-waits : (c : ℕ) (m : CdcMessage) (n : cdc_under x token first.post ≡ Some m) (g : HasGone h k (h.landed + 1) c) → PostsJust g.more → cdcs x token rest ++ news_on link x token e past ≡ Spelled (to_land k)
    next-waits c m n g p =
        let b = next-lands m n in
        let room : h.landed + 1 ≤ length h.sent = some-left h.landed h.sent b.x b.others b.is in
        let left : drop (h.landed + 1) h.sent ≡ b.others = landing-next h.sent b.others b.x h.landed b.is in
        waits (cdcs x token rest) (h.landed + 1) g.more room (b.rest_is ∙ ap (λ ms. Spelled ms) (sym left)) p ∙ ap (λ ms. Spelled ms) (to-land-is (h.landed + 1) c g)

  module _ (l : LandsNow link x e past) where
    -- a post lands that is not the end's
    pub carried-passes : (g : HasGone h k h.landed h.completed) → PostsJust g.more → cdc_under x token l.first.post ≡ None → IsCarried size link x token (e ∷ past) k
    carried-passes g p n = record {
      landing = lands-unlanded x token link e past l ∙ rest-waits l.first l.rest l.waiting g p n;
      completing = lands-uncompleted x token link e past l ∙ ap (λ o. cdcs x token (uncompleted link x past) ++ cons_option o []) n ∙ append-nil (cdcs x token (uncompleted link x past)) ∙ carried.completing ∙
          ap (λ ms. Spelled ms) (same-returning g);
    }

    -- the end's next message lands
    pub carried-lands : (m : CdcMessage) (n : cdc_under x token l.first.post ≡ Some m) (g : HasGone h k (h.landed + 1) h.completed) → PostsJust g.more → IsCarried size link x token (e ∷ past) k
    carried-lands m n g p =
        let b = next-lands l.first l.rest l.waiting m n in
        let room : h.landed + 1 ≤ length h.sent = some-left h.landed h.sent b.x b.others b.is in
        record {
          landing = lands-unlanded x token link e past l ∙ next-waits l.first l.rest l.waiting h.completed m n g p;
          completing = lands-uncompleted x token link e past l ∙ ap (λ o. cdcs x token (uncompleted link x past) ++ cons_option o []) n ∙
              ap (λ ms. ms ++ m ∷ []) carried.completing ∙ ap (λ q. Spelled (returning h) ++ q ∷ []) b.first_is ∙ sym (map-append (message size token) (returning h) (b.x ∷ [])) ∙
              ap (λ ms. Spelled ms) (sym (returning-next h.sent b.others b.x h.landed h.completed mark.completed_landed b.is)) ∙
              ap (λ ms. Spelled ms) (sym (returning-same h.sent g.more (h.landed + 1) h.completed room (omega (arith, mark.completed_landed)))) ∙
              ap (λ ms. Spelled ms) (returning-is (h.landed + 1) h.completed g);
        }

  module _ (l : SwallowedNow link x e past) where
    -- a post is swallowed that is not the end's
    pub swallowed-passes : (g : HasGone h k h.landed h.completed) → PostsJust g.more → cdc_under x token l.first.post ≡ None → IsCarried size link x token (e ∷ past) k
    swallowed-passes g p n = record {
      landing = swallowed-unlanded x token link e past l ∙ rest-waits l.first l.rest l.waiting g p n;
      completing = swallowed-uncompleted x token link e past l ∙ carried.completing ∙ ap (λ ms. Spelled ms) (same-returning g);
    }

    -- the end's next message is swallowed, where none has landed and not completed
    pub carried-swallowed : (m : CdcMessage) (n : cdc_under x token l.first.post ≡ Some m) (g : HasGone h k (h.landed + 1) (h.completed + 1)) → PostsJust g.more → h.completed ≡ h.landed → IsCarried size link x token (e ∷ past) k
    carried-swallowed m n g p same = record {
      landing = swallowed-unlanded x token link e past l ∙ next-waits l.first l.rest l.waiting (h.completed + 1) m n g p;
      completing = swallowed-uncompleted x token link e past l ∙ carried.completing ∙
          ap (λ i. Spelled (take i (drop h.completed h.sent))) (zero-of h.landed h.completed same) ∙ ap (λ ms. Spelled ms) (take-none (drop h.completed h.sent)) ∙
          ap (λ ms. Spelled ms) (sym (take-none (drop (h.completed + 1) (h.sent ++ g.more)))) ∙
          ap (λ i. Spelled (take i (drop (h.completed + 1) (h.sent ++ g.more)))) (sym (zero-of (h.landed + 1) (h.completed + 1) (ap (λ i. i + 1) same))) ∙
          ap (λ ms. Spelled ms) (returning-is (h.landed + 1) (h.completed + 1) g);
    }
      where
        zero-of : (i j : ℕ) → j ≡ i → i - j ≡ 0
        zero-of i j q = omega (arith, q)

  module _ (l : CompletesNow link x e past) where
    returning-first : cons_option (cdc_under x token l.first.post) (cdcs x token l.rest) ≡ Spelled (returning h)
    returning-first = ap (λ ps. cdcs x token ps) (sym l.waiting) ∙ carried.completing

    -- a post completes that is not the end's
    pub carried-leaves : (g : HasGone h k h.landed h.completed) → PostsJust g.more → cdc_under x token l.first.post ≡ None → IsCarried size link x token (e ∷ past) k
    carried-leaves g p n = record {
      landing = completes-unlanded x token link e past l ∙ waits (cdcs x token (unlanded link x past)) h.landed g.more mark.landed_sent carried.landing p ∙ ap (λ ms. Spelled ms) (to-land-is h.landed h.completed g);
      completing = completes-uncompleted x token link e past l ∙ ap (λ o. cons_option o (cdcs x token l.rest)) (sym n) ∙ returning-first ∙ ap (λ ms. Spelled ms) (same-returning g);
    }

    -- the end's oldest message is there
    pub next-completes : (m : CdcMessage) → cdc_under x token l.first.post ≡ Some m → Begins (message size token) m (cdcs x token l.rest) (returning h)
    next-completes m n = begins (message size token) m (cdcs x token l.rest) (returning h) (ap (λ o. cons_option o (cdcs x token l.rest)) (sym n) ∙ returning-first)

    -- it completes
    pub carried-completes : (m : CdcMessage) (n : cdc_under x token l.first.post ≡ Some m) (g : HasGone h k h.landed (h.completed + 1)) → PostsJust g.more → h.completed < h.landed → IsCarried size link x token (e ∷ past) k
    carried-completes m n g p o =
        let b = next-completes m n in
        record {
          landing = completes-unlanded x token link e past l ∙ waits (cdcs x token (unlanded link x past)) h.landed g.more mark.landed_sent carried.landing p ∙
              ap (λ ms. Spelled ms) (to-land-is h.landed (h.completed + 1) g);
          completing = completes-uncompleted x token link e past l ∙ b.rest_is ∙ ap (λ ms. Spelled ms) (sym (returned-next h.sent b.others b.x h.landed h.completed o b.is)) ∙
              ap (λ ms. Spelled ms) (sym (returning-same h.sent g.more h.landed (h.completed + 1) mark.landed_sent (omega (arith, o)))) ∙
              ap (λ ms. Spelled ms) (returning-is h.landed (h.completed + 1) g);
        }

-- the end moves to this link, on which nothing of it was: what it sent before is left behind
pub carried-moved : (size : ℕ) (link : LinkId) (x : Side) (token : ℕ) (e : Entry) (past : List Entry) (h k : Half) (more : List Sent) → cdcs x token (unlanded link x past) ≡ [] → cdcs x token (uncompleted link x past) ≡ [] → Stays link x e past → k.sent ≡ h.sent ++ more → k.landed ≡ length h.sent → k.completed ≡ length h.sent → news_on link x token e past ≡ map (message size token) more →
    IsCarried size link x token (e ∷ past) k
carried-moved size link x token e past h k more u c s sent landed completed p = record {
  landing = stays-unlanded x token link e past s ∙ ap (λ ms. ms ++ news_on link x token e past) u ∙ p ∙ ap (λ ms. map (message size token) ms) (sym (behind h.sent more)) ∙ ap (λ ms. map (message size token) (drop (length h.sent) ms)) (sym sent) ∙
      ap (λ n. map (message size token) (drop n k.sent)) (sym landed);
  completing = stays-uncompleted x token link e past s ∙ c ∙ ap (λ ms. map (message size token) ms) (sym (take-none (drop k.completed k.sent))) ∙ ap (λ i. map (message size token) (take i (drop k.completed k.sent))) (sym (none k.landed k.completed (landed ∙ sym completed)));
}
  where
    behind : (ms ns : List Sent) → drop (length ms) (ms ++ ns) ≡ ns
    behind [] ns = drop-none ns
    behind (m ∷ ms) ns = behind ms ns

    none : (i j : ℕ) → i ≡ j → i - j ≡ 0
    none i j q = omega (arith, q)
