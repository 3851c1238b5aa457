-- The live links of a side, followed by fates: after each change of a table they are the live links of the new one, in order.
use Rattle.std.proofs.Common.{Bool, List, [], ap, arith, cond, eq-eqb, eqb-true, false, filter, filter_map, if◌then◌else◌, inl, inr, map, nat_lt, not, refl, subst, sym, true, true≢false, ℕ, ◌&&◌, ◌++◌, ◌+◌, ◌<◌, ◌==◌, ◌∙◌, ◌∷◌, ◌≡◌, ◌≤◌, ◌⊎◌}
use Rattle.std.proofs.lemmas.Bool.{ltb-false, ltb-true, ne_eqb}
use Rattle.pipe_model.specs.Ends.{with_link}
use Rattle.std.proofs.lemmas.List.Elements.{filter-append}
use Rattle.std.specs.Prelude.{None, Some, find, option_map, unwrap_or}
use Rattle.std.proofs.lemmas.List.{append_assoc}
use Rattle.smc_num.specs.declared.LinkPhase.TheVariants.{Live as LiveLink}
use Rattle.std.specs.List.{cons_option}
use Rattle.history_laws.specs.Words.{Dead, Fate, Item, Known, LinkId, LinkPhase, Pending, Side, Unused, at_slot, fate_of, is_fate, is_live, is_standing, live_links, phase_at, phase_of, put, same_link, same_phase}
use Rattle.history_laws.specs.Tables.{Rises}
use Rattle.history_laws.proofs.Basics.{by-bool, link-is, same-self}
use Rattle.history_laws.proofs.Items.{forth, meets}
use Rattle.link_laws.proofs.Sound.{link-self}
use Rattle.link_laws.specs.Linked.{AreOf, NoneStands}

-- slots of links from this one on, and below it
abbrev Above : ℕ → List LinkId → Type 0
Above low [] = Unit {0}
Above low (l ∷ ls) = (low ≤ l.slot) × Above low ls

abbrev Below : ℕ → List LinkId → Type 0
Below high [] = Unit {0}
Below high (l ∷ ls) = (l.slot < high) × Below high ls

above-less : (a b : ℕ) (ls : List LinkId) → a ≤ b → Above b ls → Above a ls
above-less a b [] o h = tt
above-less a b (l ∷ ls) o h = (omega (arith, o, h.0), above-less a b ls o h.1)

below-more : (a b : ℕ) (ls : List LinkId) → a ≤ b → Below a ls → Below b ls
below-more a b [] o h = tt
below-more a b (l ∷ ls) o h = (omega (arith, o, h.0), below-more a b ls o h.1)

below-append : (a : ℕ) (ls ks : List LinkId) → Below a ls → Below a ks → Below a (ls ++ ks)
below-append a [] ks h g = g
below-append a (l ∷ ls) ks h g = (h.0, below-append a ls ks h.1 g)

-- a link among the live ones of a table
live-cons : (n : Known) (ns : List Known) → live_links (n ∷ ns) ≡ (if is_live n.phase then n.link ∷ live_links ns else live_links ns)
live-cons n ns = by (is_live n.phase)
  where
    by : (b : Bool) → map (λ (known : Known). known.link) (if b then n ∷ filter (λ (known : Known). is_live known.phase) ns else filter (λ (known : Known). is_live known.phase) ns) ≡ (if b then n.link ∷ live_links ns else live_links ns)
    by true = refl
    by false = refl

live-above : (low : ℕ) (ns : List Known) → Rises low ns → Above low (live_links ns)
live-above low [] r = tt
live-above low (n ∷ ns) r = subst (λ ls. Above low ls) (sym (live-cons n ns)) (by (is_live n.phase) (above-less low (n.link.slot + 1) (live_links ns) (omega (arith, r.0)) (live-above (n.link.slot + 1) ns r.1)))
  where
    by : (b : Bool) → Above low (live_links ns) → Above low (if b then n.link ∷ live_links ns else live_links ns)
    by true h = (r.0, h)
    by false h = h

lt-is : (m n : ℕ) → m < n → nat_lt m n ≡ true
lt-is m n o = by-bool (nat_lt m n ≡ true) (nat_lt m n) (λ e. e) (λ e. absurd (let q = ltb-false m n e in omega (arith, q, o)))

not-lt-is : (m n : ℕ) → n < m → nat_lt m n ≡ false
not-lt-is m n o = by-bool (nat_lt m n ≡ false) (nat_lt m n) (λ e. absurd (let q = ltb-true m n e in omega (arith, q, o))) (λ e. e)

with-above : (link : LinkId) (ls : List LinkId) → Above (link.slot + 1) ls → with_link link ls ≡ link ∷ ls
with-above link [] h = refl
with-above link (l ∷ ls) h = ap (λ b. if b then link ∷ l ∷ ls else l ∷ with_link link ls) (lt-is link.slot l.slot (omega (arith, h.0)))

with-below : (link : LinkId) (done ls : List LinkId) → Below link.slot done → with_link link (done ++ ls) ≡ done ++ with_link link ls
with-below link [] ls h = refl
with-below link (l ∷ done) ls h = ap (λ b. if b then link ∷ l ∷ (done ++ ls) else l ∷ with_link link (done ++ ls)) (not-lt-is link.slot l.slot h.0) ∙ ap (λ ks. l ∷ ks) (with-below link done ls h.1)

abbrev drops : LinkId → List LinkId → List LinkId
drops link ls = filter (λ l. not (same_link link l)) ls

other-slot : (link l : LinkId) → (link.slot ≡ l.slot → ⊥) → same_link link l ≡ false
other-slot link l n = by-bool (same_link link l ≡ false) (same_link link l) (λ e. absurd (n (ap (λ (k : LinkId). k.slot) (link-is link l e)))) (λ e. e)

drops-above : (link : LinkId) (ls : List LinkId) → Above (link.slot + 1) ls → drops link ls ≡ ls
drops-above link [] h = refl
drops-above link (l ∷ ls) h = ap (λ b. if not b then l ∷ drops link ls else drops link ls) (other-slot link l (λ e. omega (arith, e, h.0))) ∙ ap (λ ks. l ∷ ks) (drops-above link ls h.1)

drops-below : (link : LinkId) (ls : List LinkId) → Below link.slot ls → drops link ls ≡ ls
drops-below link [] h = refl
drops-below link (l ∷ ls) h = ap (λ b. if not b then l ∷ drops link ls else drops link ls) (other-slot link l (λ e. omega (arith, e, h.0))) ∙ ap (λ ks. l ∷ ks) (drops-below link ls h.1)

drops-beside : (link : LinkId) (done ls : List LinkId) → Below link.slot done → Above (link.slot + 1) ls → drops link (done ++ ls) ≡ done ++ ls
drops-beside link done ls b a = filter-append (λ l. not (same_link link l)) done ls ∙ (ap (λ ks. ks ++ drops link ls) (drops-below link done b) ∙ ap (λ ks. done ++ ks) (drops-above link ls a))

drops-here : (link : LinkId) (done ls : List LinkId) → Below link.slot done → Above (link.slot + 1) ls → drops link (done ++ (link ∷ ls)) ≡ done ++ ls
drops-here link done ls b a = filter-append (λ l. not (same_link link l)) done (link ∷ ls) ∙ (ap (λ ks. ks ++ drops link (link ∷ ls)) (drops-below link done b) ∙ ap (λ ks. done ++ ks) (ap (λ b. if not b then link ∷ drops link ls else drops link ls) (link-self link) ∙ drops-above link ls a))

-- the phases of a table, as they are looked up by link
abbrev Looks : List Known → List Known → Type 0
Looks t [] = Unit {0}
Looks t (n ∷ ns) = (phase_of n.link t ≡ n.phase) × Looks t ns

looks-later : (n : Known) (t ns : List Known) → Rises (n.link.slot + 1) ns → Looks t ns → Looks (n ∷ t) ns
looks-later n t [] r h = tt
looks-later n t (m ∷ ns) r h = (
  ap (λ b. unwrap_or (option_map (λ (known : Known). known.phase) (cond b (Some n) (find (λ (known : Known). same_link m.link known.link) t))) Unused) (other-slot m.link n.link (λ e. omega (arith, e, r.0))) ∙ h.0,
  looks-later n t ns (rises-less (n.link.slot + 1) (m.link.slot + 1) ns (omega (arith, r.0)) r.1) h.1,
)
  where
    rises-less : (a b : ℕ) (ks : List Known) → a ≤ b → Rises b ks → Rises a ks
    rises-less a b [] o h = tt
    rises-less a b (k ∷ ks) o h = (omega (arith, o, h.0), h.1)

pub looks : (low : ℕ) (t : List Known) → Rises low t → Looks t t
looks low [] r = tt
looks low (n ∷ t) r = (ap (λ b. unwrap_or (option_map (λ (known : Known). known.phase) (cond b (Some n) (find (λ (known : Known). same_link n.link known.link) t))) Unused) (link-self n.link), looks-later n t t r.1 (looks (n.link.slot + 1) t r.1))

-- what becomes of one link: it may go live or dead, and a live one may not go back
abbrev MayBe : LinkPhase → LinkPhase → Type 0
MayBe p q = is_live p ≡ true → (is_live q ≡ true) ⊎ (q ≡ Dead)

module _ (x : Side) (l : LinkId) (done r new : List LinkId) (F : List Item) (below : Below l.slot done) (above : Above (l.slot + 1) r) (skip : forth x F (done ++ r) ≡ done ++ new) (take : forth x F ((done ++ (l ∷ [])) ++ r) ≡ (done ++ (l ∷ [])) ++ new) where
  taken : forth x F (done ++ (l ∷ r)) ≡ done ++ (l ∷ new)
  taken = ap (λ ls. forth x F ls) (sym (append_assoc done (l ∷ []) r)) ∙ (take ∙ append_assoc done (l ∷ []) new)

  by-fate : (q : LinkPhase) (ls ks : List LinkId) → meets l q ls ≡ ks → forth x F ks ≡ done ++ new ⊎ forth x F ks ≡ done ++ (l ∷ new) → forth x (Fate x l q ∷ F) ls ≡ forth x F ks
  by-fate q ls ks m h = ap (λ b. forth x F (if b then meets l q ls else ls)) (same-self x) ∙ ap (λ js. forth x F js) m

  comes : forth x (Fate x l LiveLink ∷ F) (done ++ r) ≡ done ++ (l ∷ new)
  comes = by-fate LiveLink (done ++ r) (done ++ (l ∷ r)) (with-below l done r below ∙ ap (λ ks. done ++ ks) (with-above l r above)) (inr taken) ∙ taken

  goes : forth x (Fate x l Dead ∷ F) (done ++ (l ∷ r)) ≡ done ++ new
  goes = by-fate Dead (done ++ (l ∷ r)) (done ++ r) (drops-here l done r below above) (inl skip) ∙ skip

  dies : forth x (Fate x l Dead ∷ F) (done ++ r) ≡ done ++ new
  dies = by-fate Dead (done ++ r) (done ++ r) (drops-beside l done r below above) (inl skip) ∙ skip

  by-phase : (p q : LinkPhase) → MayBe p q → forth x (cons_option (if is_fate q && not (same_phase q p) then Some (Fate x l q) else None) F) (done ++ (if is_live p then l ∷ r else r)) ≡ done ++ (if is_live q then l ∷ new else new)
  by-phase LiveLink LiveLink m = taken
  by-phase Pending LiveLink m = comes
  by-phase Dead LiveLink m = comes
  by-phase Unused LiveLink m = comes
  by-phase LiveLink Dead m = goes
  by-phase Pending Dead m = dies
  by-phase Dead Dead m = skip
  by-phase Unused Dead m = dies
  by-phase LiveLink Pending m = elim (m refl) [ inl h ↦ absurd (true≢false (sym h)) | inr h ↦ absurd (let w : Pending ≡ Dead = h in cc) ]
  by-phase Pending Pending m = skip
  by-phase Dead Pending m = skip
  by-phase Unused Pending m = skip
  by-phase LiveLink Unused m = elim (m refl) [ inl h ↦ absurd (true≢false (sym h)) | inr h ↦ absurd (let w : Unused ≡ Dead = h in cc) ]
  by-phase Pending Unused m = skip
  by-phase Dead Unused m = skip
  by-phase Unused Unused m = skip

-- a table with other phases
mapped : (x : Side) (g : ℕ) (t : List Known) (f : Known → Known) → ((n : Known) → (f n).link ≡ n.link) → ((n : Known) → MayBe n.phase (f n).phase) → (low : ℕ) (done : List LinkId) (ns : List Known) → Below low done → Rises low ns → AreOf g (map f ns) → Looks t ns
    → forth x (filter_map (fate_of x g t) (map f ns)) (done ++ live_links ns) ≡ done ++ live_links (map f ns)
mapped x g t f same may low done [] b r o h = refl
mapped x g t f same may low done (n ∷ ns) b r o h =
    ap (λ ls. forth x (filter_map (fate_of x g t) (map f (n ∷ ns))) (done ++ ls)) (live-cons n ns)
    ∙ (ap (λ c. forth x (cons_option c F) (done ++ (if is_live n.phase then n.link ∷ live_links ns else live_links ns))) fate
    ∙ (by-phase x n.link done (live_links ns) (live_links (map f ns)) F (below-more low n.link.slot done r.0 b) (live-above (n.link.slot + 1) ns r.1)
    (mapped x g t f same may (n.link.slot + 1) done ns (below-more low (n.link.slot + 1) done (omega (arith, r.0)) b) r.1 o.1 h.1)
    (mapped x g t f same may (n.link.slot + 1) (done ++ (n.link ∷ [])) ns (below-append (n.link.slot + 1) done (n.link ∷ []) (below-more low (n.link.slot + 1) done (omega (arith, r.0)) b) (omega arith, tt)) r.1 o.1 h.1)
    n.phase (f n).phase (may n)
    ∙ (ap (λ l. done ++ (if is_live (f n).phase then l ∷ live_links (map f ns) else live_links (map f ns))) (sym (same n))
    ∙ ap (λ ls. done ++ ls) (sym (live-cons (f n) (map f ns))))))
  where
    F : List Item
    F = filter_map (fate_of x g t) (map f ns)

    fate : fate_of x g t (f n) ≡ (if is_fate (f n).phase && not (same_phase (f n).phase n.phase) then Some (Fate x n.link (f n).phase) else None)
    fate = ap (λ b. if b && (is_fate (f n).phase && not (same_phase (f n).phase (phase_of (f n).link t))) then Some (Fate x (f n).link (f n).phase) else None) (eq-eqb (f n).link.group g o.0)
        ∙ (ap (λ p. if is_fate (f n).phase && not (same_phase (f n).phase p) then Some (Fate x (f n).link (f n).phase) else None) (ap (λ l. phase_of l t) (same n) ∙ h.0)
        ∙ ap (λ l. if is_fate (f n).phase && not (same_phase (f n).phase n.phase) then Some (Fate x l (f n).phase) else None) (same n))

-- phases change: the live links followed by fates are those of the new table
pub live-mapped : (x : Side) (g : ℕ) (t : List Known) (f : Known → Known) → ((n : Known) → (f n).link ≡ n.link) → ((n : Known) → is_live n.phase ≡ true → (is_live (f n).phase ≡ true) ⊎ ((f n).phase ≡ Dead)) → Rises 1 t → AreOf g (map f t)
    → forth x (filter_map (fate_of x g t) (map f t)) (live_links t) ≡ live_links (map f t)
live-mapped x g t f same may r o = mapped x g t f same may 1 [] t tt r o (looks 1 t r)

-- a link is made on a slot that has no live one: no fate, and the same live links
same-is : (p : LinkPhase) → (is_fate p && not (same_phase p p)) ≡ false
same-is Unused = refl
same-is Pending = refl
same-is LiveLink = refl
same-is Dead = refl

quiet-put : (x : Side) (g : ℕ) (t : List Known) (link : LinkId) (ns : List Known) → Looks t ns → filter_map (fate_of x g t) (put (record { link = link; phase = Pending }) ns) ≡ []
quiet-put x g t link ns h = by-put ns h
  where
    quiet-one : (m : Known) (ms : List Known) → (is_fate m.phase && not (same_phase m.phase (phase_of m.link t))) ≡ false → filter_map (fate_of x g t) ms ≡ [] → filter_map (fate_of x g t) (m ∷ ms) ≡ []
    quiet-one m ms e i = by (m.link.group == g)
      where
        by : (b : Bool) → cons_option (if b && (is_fate m.phase && not (same_phase m.phase (phase_of m.link t))) then Some (Fate x m.link m.phase) else None) (filter_map (fate_of x g t) ms) ≡ []
        by true = ap (λ b. cons_option (if b then Some (Fate x m.link m.phase) else None) (filter_map (fate_of x g t) ms)) e ∙ i
        by false = i

    old : (m : Known) (ms : List Known) → phase_of m.link t ≡ m.phase → filter_map (fate_of x g t) ms ≡ [] → filter_map (fate_of x g t) (m ∷ ms) ≡ []
    old m ms e i = quiet-one m ms (ap (λ p. is_fate m.phase && not (same_phase m.phase p)) e ∙ same-is m.phase) i

    none : (ms : List Known) → Looks t ms → filter_map (fate_of x g t) ms ≡ []
    none [] h = refl
    none (m ∷ ms) h = old m ms h.0 (none ms h.1)

    by-put : (ms : List Known) → Looks t ms → filter_map (fate_of x g t) (put (record { link = link; phase = Pending }) ms) ≡ []
    by-put [] h = quiet-one (record { link = link; phase = Pending }) [] refl refl
    by-put (k ∷ ms) h = by (link.slot == k.link.slot) (nat_lt link.slot k.link.slot) (by-put ms h.1)
      where
        by : (b c : Bool) → filter_map (fate_of x g t) (put (record { link = link; phase = Pending }) ms) ≡ [] → filter_map (fate_of x g t) (if b then record { link = link; phase = Pending } ∷ ms else if c then record { link = link; phase = Pending } ∷ k ∷ ms else k ∷ put (record { link = link; phase = Pending }) ms) ≡ []
        by true c i = quiet-one (record { link = link; phase = Pending }) ms refl (none ms h.1)
        by false true i = quiet-one (record { link = link; phase = Pending }) (k ∷ ms) refl (none (k ∷ ms) h)
        by false false i = old k (put (record { link = link; phase = Pending }) ms) h.0 i

live-put : (link : LinkId) (t : List Known) → is_live (phase_at link.slot t) ≡ false → live_links (put (record { link = link; phase = Pending }) t) ≡ live_links t
live-put link [] e = refl
live-put link (k ∷ ks) e = by (link.slot == k.link.slot) (nat_lt link.slot k.link.slot) refl (λ d. live-put link ks d)
  where
    by : (b c : Bool) → (link.slot == k.link.slot) ≡ b → (is_live (phase_at link.slot ks) ≡ false → live_links (put (record { link = link; phase = Pending }) ks) ≡ live_links ks)
        → live_links (if b then record { link = link; phase = Pending } ∷ ks else if c then record { link = link; phase = Pending } ∷ k ∷ ks else k ∷ put (record { link = link; phase = Pending }) ks) ≡ live_links (k ∷ ks)
    by true c q ih =
        let here : (k.link.slot == link.slot) ≡ true = eq-eqb k.link.slot link.slot (sym (eqb-true link.slot k.link.slot q)) in
        let off : is_live k.phase ≡ false = sym (ap (λ b. is_live (unwrap_or (option_map (λ (n : Known). n.phase) (cond b (Some k) (at_slot link.slot ks))) Unused)) here) ∙ e in
        sym (live-cons k ks ∙ ap (λ b. if b then k.link ∷ live_links ks else live_links ks) off)
    by false true q ih = refl
    by false false q ih =
        let apart : (k.link.slot == link.slot) ≡ false = ne_eqb k.link.slot link.slot (λ s. true≢false (sym (eq-eqb link.slot k.link.slot (sym s)) ∙ q)) in
        let off : is_live (phase_at link.slot ks) ≡ false = sym (ap (λ b. is_live (unwrap_or (option_map (λ (n : Known). n.phase) (cond b (Some k) (at_slot link.slot ks))) Unused)) apart) ∙ e in
        live-cons k (put (record { link = link; phase = Pending }) ks) ∙ (ap (λ ls. if is_live k.phase then k.link ∷ ls else ls) (ih off) ∙ sym (live-cons k ks))

pub live-made : (x : Side) (g : ℕ) (t : List Known) (link : LinkId) → Rises 1 t → is_live (phase_at link.slot t) ≡ false
    → forth x (filter_map (fate_of x g t) (put (record { link = link; phase = Pending }) t)) (live_links t) ≡ live_links (put (record { link = link; phase = Pending }) t)
live-made x g t link r e = ap (λ is. forth x is (live_links t)) (quiet-put x g t link t (looks 1 t r)) ∙ sym (live-put link t e)

-- no link of a group is live
abbrev pub NoneLiveOf : ℕ → List Known → Type 0
NoneLiveOf g [] = Unit {0}
NoneLiveOf g (n ∷ ns) = ((n.link.group == g) ≡ true → is_live n.phase ≡ false) × NoneLiveOf g ns

pub other-group : (g h : ℕ) (ns : List Known) → (h ≡ g → ⊥) → AreOf h ns → NoneLiveOf g ns
other-group g h [] n o = tt
other-group g h (k ∷ ns) n o = (λ e. absurd (n (sym o.0 ∙ eqb-true k.link.group g e)), other-group g h ns n o.1)

pub none-live-stands : (g : ℕ) (ns : List Known) → NoneStands ns → NoneLiveOf g ns
none-live-stands g [] h = tt
none-live-stands g (n ∷ ns) h = (λ e. by n.phase h.0, none-live-stands g ns h.1)
  where
    by : (p : LinkPhase) → is_standing p ≡ false → is_live p ≡ false
    by LiveLink e = e
    by Unused e = refl
    by Pending e = refl
    by Dead e = refl

-- then there is no live link after fates where there was none before
pub live-none : (x : Side) (g : ℕ) (t ns : List Known) → NoneLiveOf g ns → forth x (filter_map (fate_of x g t) ns) [] ≡ []
live-none x g t [] h = refl
live-none x g t (n ∷ ns) h = by (n.link.group == g) (is_fate n.phase && not (same_phase n.phase (phase_of n.link t))) refl (live-none x g t ns h.1)
  where
    gone : (p : LinkPhase) → is_live p ≡ false → meets n.link p [] ≡ []
    gone LiveLink e = absurd (true≢false e)
    gone Unused e = refl
    gone Pending e = refl
    gone Dead e = refl

    by : (b c : Bool) → (n.link.group == g) ≡ b → forth x (filter_map (fate_of x g t) ns) [] ≡ [] → forth x (cons_option (if b && c then Some (Fate x n.link n.phase) else None) (filter_map (fate_of x g t) ns)) [] ≡ []
    by true true q ih = ap (λ b. forth x (filter_map (fate_of x g t) ns) (if b then meets n.link n.phase [] else [])) (same-self x) ∙ (ap (λ ls. forth x (filter_map (fate_of x g t) ns) ls) (gone n.phase (h.0 q)) ∙ ih)
    by true false q ih = ih
    by false c q ih = ih
