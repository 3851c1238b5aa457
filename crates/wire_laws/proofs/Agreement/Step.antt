-- One link and one end go on agreeing, in each of the ways in which an entry moves the messages of the end's side there.
use Rattle.std.proofs.Common.{Bool, List, [], ap, arith, false, filter, if◌then◌else◌, length, map, refl, subst, sym, true, true≢false, ℕ, ◌++◌, ◌+◌, ◌∙◌, ◌∷◌, ◌≡◌}
use Rattle.pipe_model.specs.declared.sent.Sent.{Sent}
use Rattle.std.specs.Prelude.{None, Some, cond, is_some}
use Rattle.pipe_model.specs.Ends.{fresh}
use Rattle.std.specs.List.{cons_option}
use Rattle.history_laws.specs.Words.{CdcMessage, EachOf, Entry, Half, IsMarked, LinkId, Placed, Side, head, same_link, to_land, uncompleted, unlanded}
use Rattle.history_laws.specs.Wires.{CompletesNow, HasGone, IsCarried, LandsNow, Stays, cdc_under, cdcs, here, message, returning}
use Rattle.history_laws.proofs.Basics.{by-bool, has-returning, lands-nothing, returns-nothing}
use Rattle.history_laws.proofs.Items.{Counts, MovesOff, Sends}
use Rattle.history_laws.proofs.Wires.{SwallowedNow, carried-completes, carried-lands, carried-leaves, carried-moved, carried-passes, carried-stays, carried-swallowed, news_on, next-completes, swallowed-passes}
use Rattle.wire_laws.specs.Agreement.{IsCarriedOn}

-- which of some messages go on a link
abbrev pub on_it : LinkId → List Sent → List Sent
on_it link ms = filter (λ m. same_link link m.link) ms

pub all-on : (link l : LinkId) (ms : List Sent) → same_link link l ≡ true → EachOf (λ m. m.link ≡ l) ms → on_it link ms ≡ ms
all-on link l [] e p = refl
all-on link l (m ∷ ms) e p = ap (λ b. cond b (m ∷ on_it link ms) (on_it link ms)) (ap (λ k. same_link link k) p.0 ∙ e) ∙ ap (λ ns. m ∷ ns) (all-on link l ms e p.1)

none-on : (link l : LinkId) (ms : List Sent) → same_link link l ≡ false → EachOf (λ m. m.link ≡ l) ms → on_it link ms ≡ []
none-on link l [] e p = refl
none-on link l (m ∷ ms) e p = ap (λ b. cond b (m ∷ on_it link ms) (on_it link ms)) (ap (λ k. same_link link k) p.0 ∙ e) ∙ none-on link l ms e p.1

fresh-marked : IsMarked (fresh 0)
fresh-marked = record { completed_landed = omega arith; landed_sent = omega arith }

pub mark-here : (link : LinkId) (h : Half) → IsMarked h → IsMarked (here link h)
mark-here link h m = by (same_link link h.link)
  where
    by : (b : Bool) → IsMarked (if b then h else fresh 0)
    by true = m
    by false = fresh-marked

pub no-head : (m : CdcMessage) (ms : List CdcMessage) → m ∷ ms ≡ [] → ⊥
no-head m ms e = true≢false (ap (λ ns. is_some (head ns)) e)

module _ (size : ℕ) (link : LinkId) (x : Side) (token : ℕ) (e : Entry) (past : List Entry) (h k : Half) (mark : IsMarked h) (idle : h.up ≡ false → h.sent ≡ []) (carried : IsCarriedOn size link x token past h) where
  abbrev Spelled : List Sent → List CdcMessage
  Spelled ms = map (message size token) ms

  -- the end's message is there: this is the end's link, and the end is up
  pub first-is-here : (first : Placed) (rest : List Placed) → unlanded link x past ≡ first ∷ rest → (m : CdcMessage) → cdc_under x token first.post ≡ Some m → (same_link link h.link ≡ true) × (h.up ≡ true)
  first-is-here first rest w m n = by-bool _ (same_link link h.link)
      (λ c. (c, by-bool (h.up ≡ true) h.up (λ u. u) (λ u. absurd (no-head m (cdcs x token rest) (there c ∙ ap (λ ms. Spelled ms) (lands-nothing h (idle u)))))))
      (λ c. absurd (no-head m (cdcs x token rest) (elsewhere c)))
    where
      is-it : m ∷ cdcs x token rest ≡ cdcs x token (unlanded link x past)
      is-it = ap (λ o. cons_option o (cdcs x token rest)) (sym n) ∙ ap (λ ps. cdcs x token ps) (sym w)

      there : same_link link h.link ≡ true → m ∷ cdcs x token rest ≡ Spelled (to_land h)
      there c = is-it ∙ (carried.landing ∙ ap (λ b. Spelled (to_land (if b then h else fresh 0))) c)

      elsewhere : same_link link h.link ≡ false → m ∷ cdcs x token rest ≡ []
      elsewhere c = is-it ∙ (carried.landing ∙ ap (λ b. Spelled (to_land (if b then h else fresh 0))) c)

  pub landed-is-here : (first : Placed) (rest : List Placed) → uncompleted link x past ≡ first ∷ rest → (m : CdcMessage) → cdc_under x token first.post ≡ Some m → (same_link link h.link ≡ true) × (h.up ≡ true)
  landed-is-here first rest w m n = by-bool _ (same_link link h.link)
      (λ c. (c, by-bool (h.up ≡ true) h.up (λ u. u) (λ u. absurd (no-head m (cdcs x token rest) (there c ∙ ap (λ ms. Spelled ms) (returns-nothing h (idle u)))))))
      (λ c. absurd (no-head m (cdcs x token rest) (elsewhere c)))
    where
      is-it : m ∷ cdcs x token rest ≡ cdcs x token (uncompleted link x past)
      is-it = ap (λ o. cons_option o (cdcs x token rest)) (sym n) ∙ ap (λ ps. cdcs x token ps) (sym w)

      there : same_link link h.link ≡ true → m ∷ cdcs x token rest ≡ Spelled (returning h)
      there c = is-it ∙ (carried.completing ∙ ap (λ b. Spelled (returning (if b then h else fresh 0))) c)

      elsewhere : same_link link h.link ≡ false → m ∷ cdcs x token rest ≡ []
      elsewhere c = is-it ∙ (carried.completing ∙ ap (λ b. Spelled (returning (if b then h else fresh 0))) c)

  -- on the end's link
  pub own : same_link link h.link ≡ true → IsCarried size link x token past h
  own c = subst (λ (b : Bool). IsCarried size link x token past (if b then h else fresh 0)) c carried

  pub not-own : same_link link h.link ≡ false → IsCarried size link x token past (fresh 0)
  not-own c = subst (λ (b : Bool). IsCarried size link x token past (if b then h else fresh 0)) c carried

  pub own-after : same_link link k.link ≡ true → IsCarried size link x token (e ∷ past) k → IsCarriedOn size link x token (e ∷ past) k
  own-after c i = subst (λ (b : Bool). IsCarried size link x token (e ∷ past) (if b then k else fresh 0)) (sym c) i

  pub not-own-after : same_link link k.link ≡ false → IsCarried size link x token (e ∷ past) (fresh 0) → IsCarriedOn size link x token (e ∷ past) k
  not-own-after c i = subst (λ (b : Bool). IsCarried size link x token (e ∷ past) (if b then k else fresh 0)) (sym c) i

  -- what an end that stays on its link makes of it
  module _ (p : Sends h k) (news : news_on link x token e past ≡ Spelled (on_it link p.more)) where
    abbrev Next : Half → Half → Type 0
    Next a b = (g : HasGone a b a.landed a.completed) × (news_on link x token e past ≡ Spelled g.more)

    nothing-landed : h.up ≡ false → (h.landed ≡ 0) × (h.completed ≡ 0)
    nothing-landed u =
        let n : length h.sent ≡ 0 = ap (λ ms. length ms) (idle u) in
        (omega (arith, n, mark.landed_sent), omega (arith, n, mark.landed_sent, mark.completed_landed))

    is-down : same_link link h.link ≡ true → same_link link k.link ≡ false → h.up ≡ false
    is-down c d = by-bool _ h.up (λ u. absurd (true≢false (sym c ∙ (ap (λ l. same_link link l) (sym (p.same u)) ∙ d)))) (λ u. u)

    was-down : same_link link h.link ≡ false → same_link link k.link ≡ true → h.up ≡ false
    was-down c d = by-bool _ h.up (λ u. absurd (true≢false (sym d ∙ (ap (λ l. same_link link l) (p.same u) ∙ c)))) (λ u. u)

    -- none of its messages lands or completes
    next : Counts h k → Next (here link h) (here link k)
    next n = by (same_link link h.link) (same_link link k.link) refl refl
      where
        by : (b c : Bool) → same_link link h.link ≡ b → same_link link k.link ≡ c → Next (if b then h else fresh 0) (if c then k else fresh 0)
        by true true c d = (record { landed_is = n.0; completed_is = n.1; more = p.more; sent_is = p.sent_is }, news ∙ ap (λ ms. Spelled ms) (all-on link k.link p.more d p.on))
        by false false c d = (record { landed_is = refl; completed_is = refl; more = []; sent_is = refl }, news ∙ ap (λ ms. Spelled ms) (none-on link k.link p.more d p.on))
        by true false c d =
            let u = is-down c d in
            let z = nothing-landed u in
            (record { landed_is = sym z.0; completed_is = sym z.1; more = []; sent_is = sym (ap (λ ms. ms ++ []) (idle u)) }, news ∙ ap (λ ms. Spelled ms) (none-on link k.link p.more d p.on))
        by false true c d =
            let u = was-down c d in
            let z = nothing-landed u in
            (record { landed_is = n.0 ∙ z.0; completed_is = n.1 ∙ z.1; more = p.more; sent_is = p.sent_is ∙ ap (λ ms. ms ++ p.more) (idle u) }, news ∙ ap (λ ms. Spelled ms) (all-on link k.link p.more d p.on))

    pub step-stays : Counts h k → Stays link x e past → IsCarriedOn size link x token (e ∷ past) k
    step-stays n s = let g = next n in carried-stays size link x token e past (here link h) (here link k) (mark-here link h mark) carried g.0 g.1 s

    pub step-passes : Counts h k → (l : LandsNow link x e past) → cdc_under x token l.first.post ≡ None → IsCarriedOn size link x token (e ∷ past) k
    step-passes n l m = let g = next n in carried-passes size link x token e past (here link h) (here link k) (mark-here link h mark) carried l g.0 g.1 m

    pub step-leaves : Counts h k → (l : CompletesNow link x e past) → cdc_under x token l.first.post ≡ None → IsCarriedOn size link x token (e ∷ past) k
    step-leaves n l m = let g = next n in carried-leaves size link x token e past (here link h) (here link k) (mark-here link h mark) carried l g.0 g.1 m

    pub step-swallows-other : Counts h k → (l : SwallowedNow link x e past) → cdc_under x token l.first.post ≡ None → IsCarriedOn size link x token (e ∷ past) k
    step-swallows-other n l m = let g = next n in swallowed-passes size link x token e past (here link h) (here link k) (mark-here link h mark) carried l g.0 g.1 m

    -- one of its messages lands, completes or is swallowed, on its link
    still-here : (same_link link h.link ≡ true) × (h.up ≡ true) → same_link link k.link ≡ true
    still-here q = ap (λ l. same_link link l) (p.same q.1) ∙ q.0

    all-news : (same_link link h.link ≡ true) × (h.up ≡ true) → news_on link x token e past ≡ Spelled p.more
    all-news q = news ∙ ap (λ ms. Spelled ms) (all-on link k.link p.more (still-here q) p.on)

    pub step-lands : (l : LandsNow link x e past) (m : CdcMessage) → cdc_under x token l.first.post ≡ Some m → k.landed ≡ h.landed + 1 → k.completed ≡ h.completed → IsCarriedOn size link x token (e ∷ past) k
    step-lands l m n a b =
        let q = first-is-here l.first l.rest l.waiting m n in
        own-after (still-here q) (carried-lands size link x token e past h k mark (own q.0) l m n (record { landed_is = a; completed_is = b; more = p.more; sent_is = p.sent_is }) (all-news q))

    pub step-swallowed : (l : SwallowedNow link x e past) (m : CdcMessage) → cdc_under x token l.first.post ≡ Some m → h.completed ≡ h.landed → k.landed ≡ h.landed + 1 → k.completed ≡ h.completed + 1 → IsCarriedOn size link x token (e ∷ past) k
    step-swallowed l m n same a b =
        let q = first-is-here l.first l.rest l.waiting m n in
        own-after (still-here q) (carried-swallowed size link x token e past h k mark (own q.0) l m n (record { landed_is = a; completed_is = b; more = p.more; sent_is = p.sent_is }) (all-news q) same)

    pub step-completes : (l : CompletesNow link x e past) (m : CdcMessage) → cdc_under x token l.first.post ≡ Some m → k.landed ≡ h.landed → k.completed ≡ h.completed + 1 → IsCarriedOn size link x token (e ∷ past) k
    step-completes l m n a b =
        let q = landed-is-here l.first l.rest l.waiting m n in
        let o = own q.0 in
        let c = next-completes size link x token e past h k mark o l m n in
        own-after (still-here q) (carried-completes size link x token e past h k mark o l m n (record { landed_is = a; completed_is = b; more = p.more; sent_is = p.sent_is }) (all-news q) (has-returning h c.x c.others c.is))

    -- one of its messages lands, completes or is swallowed on another link, which is the end's
    pub step-elsewhere : same_link link h.link ≡ false → h.up ≡ true → Stays link x e past → IsCarriedOn size link x token (e ∷ past) k
    step-elsewhere c u s =
        let d : same_link link k.link ≡ false = ap (λ l. same_link link l) (p.same u) ∙ c in
        not-own-after d (carried-stays size link x token e past (fresh 0) (fresh 0) fresh-marked (not-own c) (record { landed_is = refl; completed_is = refl; more = []; sent_is = refl }) (news ∙ ap (λ ms. Spelled ms) (none-on link k.link p.more d p.on)) s)

  -- the end moves off from another link, to this one or past it
  pub step-moves : (p : MovesOff h k) → news_on link x token e past ≡ Spelled (on_it link p.more) → same_link link h.link ≡ false → Stays link x e past → IsCarriedOn size link x token (e ∷ past) k
  step-moves p news c s = by-bool _ (same_link link k.link)
      (λ d. let o = not-own c in own-after d (carried-moved size link x token e past h k p.more o.landing o.completing s p.sent_is p.landed_is p.completed_is (news ∙ ap (λ ms. Spelled ms) (all-on link k.link p.more d p.on))))
      (λ d. not-own-after d (carried-stays size link x token e past (fresh 0) (fresh 0) fresh-marked (not-own c) (record { landed_is = refl; completed_is = refl; more = []; sent_is = refl }) (news ∙ ap (λ ms. Spelled ms) (none-on link k.link p.more d p.on)) s))
