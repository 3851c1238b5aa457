-- What a wire carries of the bytes of one end: what lands is next in its stream, and batches come behind.
use Rattle.std.proofs.Common.{◌≡◌, ◌∙◌, ◌==◌, inl, inr, ℕ, ◌+◌, ◌-◌, ◌%◌, ◌<◌, ◌≤◌, Bool, true, false, if◌then◌else◌, List, [], ◌∷◌, ◌++◌, refl, ap, sym, subst, true≢false, arith, ◌/◌, ◌*◌, filter, nat_le, eqb-true, eq-eqb, leb-true, leb-false}
use Rattle.std.proofs.lemmas.Nat.{div-add-mod', mod-mul-add, mod_below}
use Rattle.clc_wire.specs.declared.offer.Offer.{Offer}
use Rattle.pipe_model.specs.Snapshot.{spelled, validation}
use Rattle.pipe_model.specs.Posts.{writes, offered_place, cdc_posts}
use Rattle.std.specs.Prelude.{Option, Some, is_some, cond}
use Rattle.smc_num.specs.declared.Side.{Side}
use Rattle.smc_num.specs.declared.LinkId.{LinkId}
use Rattle.smc_num.specs.Places.{Place, address_of}
use Rattle.cdc_wire.specs.declared.CdcMessage.{CdcMessage}
use Rattle.pipe_model.specs.declared.post.Post.{Post}
use Rattle.pipe_model.specs.declared.post.Post.TheVariants.{Write, Cdc, Llc, Clc}
use Rattle.pipe_model.specs.declared.sent.Sent.{Sent}
use Rattle.world_core.specs.WireSteps.{EachPost}
use Rattle.rc_link.specs.Wire.{next_cdc}
use Rattle.world_core.specs.Landed.{carried, Carries}
use Rattle.world_core.proofs.AskedPosts.{IsControl}
use Rattle.world_core.proofs.Plain.{same-self, some-is}

next-append : (posts more : List Post) (m : CdcMessage) → next_cdc posts ≡ Some m → next_cdc (posts ++ more) ≡ Some m
next-append [] more m e = absurd (true≢false (sym (ap (λ o. is_some o) e)))
next-append (Write from link key address len ∷ posts) more m e = next-append posts more m e
next-append (Cdc from link n ∷ posts) more m e = e
next-append (Llc from link n ∷ posts) more m e = next-append posts more m e
next-append (Clc from s link n ∷ posts) more m e = next-append posts more m e

gt-of : (a b : ℕ) → nat_le a b ≡ false → b < a
gt-of a b e = leb-false a b e

module _ (size : ℕ) (x : Side) (place : Place) (token : ℕ) where
  abbrev On : ℕ → List Post → List Sent → ℕ → Type 0
  On reach posts ms last = Carries size x place token reach posts ms last

  -- no more lands than was told
  pub carries-up : (reach last : ℕ) (posts : List Post) (ms : List Sent) → On reach posts ms last → reach ≤ last
  carries-up reach last [] ms c = omega (arith, c.1)
  carries-up reach last (Write from link key address len ∷ posts) ms (m, e, inl w) = let q = carries-up (reach + len) last posts ms w.3 in omega (arith, q)
  carries-up reach last (Write from link key address len ∷ posts) ms (m, e, inr w) = carries-up reach last posts ms w.1
  carries-up reach last (Cdc from link m ∷ posts) ms (e, inl w) = let r = w.1 in carries-up reach last posts r.1 r.4
  carries-up reach last (Cdc from link m ∷ posts) ms (e, inr w) = carries-up reach last posts ms w.1
  carries-up reach last (Llc from link m ∷ posts) ms c = carries-up reach last posts ms c
  carries-up reach last (Clc from s link m ∷ posts) ms c = carries-up reach last posts ms c

  -- the writes before the next message are told by the end's next one, where it is the end's
  pub record Tells (told : ℕ) (ms : List Sent) : Type 0 where
    pub first : Sent
    pub rest : List Sent
    pub is : ms ≡ first ∷ rest
    pub told_is : first.snapshot.told ≡ told

  retell : (a b : ℕ) (ms : List Sent) → a ≡ b → Tells a ms → Tells b ms
  retell a b ms e t = subst (λ n. Tells n ms) e t

  not-both : (a b : CdcMessage) (o : Option CdcMessage) → o ≡ Some a → o ≡ Some b → (token == a.token) ≡ true → (token == b.token) ≡ false → ⊥
  not-both a b o e f g h = true≢false (sym g ∙ ap (λ (m : CdcMessage). token == m.token) (some-is a b (sym e ∙ f)) ∙ h)

  pub tells-next : (reach last : ℕ) (posts : List Post) (ms : List Sent) (m : CdcMessage) → next_cdc posts ≡ Some m → (token == m.token) ≡ true → On reach posts ms last → Tells (reach + carried posts) ms
  tells-next reach last [] ms m e t c = absurd (true≢false (sym (ap (λ o. is_some o) e)))
  tells-next reach last (Write from link key address len ∷ posts) ms m e t (n, f, inl w) = retell (reach + len + carried posts) (reach + (len + carried posts)) ms (omega arith) (tells-next (reach + len) last posts ms m e t w.3)
  tells-next reach last (Write from link key address len ∷ posts) ms m e t (n, f, inr w) = absurd (not-both m n (next_cdc posts) e f t w.0)
  tells-next reach last (Cdc from link n ∷ posts) ms m e t (f, inl w) = let r = w.1 in record { first = r.0; rest = r.1; is = r.2; told_is = r.3 ∙ (let z : reach ≡ reach + 0 = omega arith in z) }
  tells-next reach last (Cdc from link n ∷ posts) ms m e t (f, inr w) = absurd (not-both m n (Some n) e refl t w.0)
  tells-next reach last (Llc from link n ∷ posts) ms m e t c = tells-next reach last posts ms m e t c
  tells-next reach last (Clc from s link n ∷ posts) ms m e t c = tells-next reach last posts ms m e t c

  -- posts that come behind
  module _ (more : List Post) (new : List Sent) (last last2 : ℕ) (come : On last more new last2) where
    again : (reach : ℕ) → reach ≡ last → On reach more new last2
    again reach e = subst (λ n. On n more new last2) (sym e) come

    pub carries-append : (reach : ℕ) (posts : List Post) (ms : List Sent) → On reach posts ms last → On reach (posts ++ more) (ms ++ new) last2
    carries-append reach [] ms c = subst (λ ks. On reach more (ks ++ new) last2) (sym c.0) (again reach c.1)
    carries-append reach (Write from link key address len ∷ posts) ms (m, e, inl w) = (m, next-append posts more m e, inl (w.0, w.1, w.2, carries-append (reach + len) posts ms w.3))
    carries-append reach (Write from link key address len ∷ posts) ms (m, e, inr w) = (m, next-append posts more m e, inr (w.0, carries-append reach posts ms w.1))
    carries-append reach (Cdc from link m ∷ posts) ms (e, inl w) =
        let r = w.1 in (e, inl (w.0, (r.0, r.1 ++ new, ap (λ ks. ks ++ new) r.2, r.3, carries-append reach posts r.1 r.4)))
    carries-append reach (Cdc from link m ∷ posts) ms (e, inr w) = (e, inr (w.0, carries-append reach posts ms w.1))
    carries-append reach (Llc from link m ∷ posts) ms c = carries-append reach posts ms c
    carries-append reach (Clc from s link m ∷ posts) ms c = carries-append reach posts ms c

  -- control posts carry nothing
  pub carries-control : (last : ℕ) (posts : List Post) → EachPost IsControl posts → On last posts [] last
  carries-control last [] c = (refl, refl)
  carries-control last (Write from link key address len ∷ posts) c = absurd c.0
  carries-control last (Cdc from link m ∷ posts) c = absurd c.0
  carries-control last (Llc from link m ∷ posts) c = carries-control last posts c.1
  carries-control last (Clc from s link m ∷ posts) c = carries-control last posts c.1

  -- a batch of the end
  next-round : (from : ℕ) → 0 < size → (from + (size - from % size)) % size ≡ 0
  next-round from some =
      let below = mod_below from size some in
      let regrouped : from + (size - from % size) ≡ (from / size + 1) * size + 0 = omega (arith, div-add-mod' from size, below) in
      ap (λ m. m % size) regrouped ∙ mod-mul-add (from / size + 1) size 0 some

  batch-cdc : (link : LinkId) (n : CdcMessage) (m : Sent) → (token == n.token) ≡ true → On m.snapshot.told (Cdc x link n ∷ []) (m ∷ []) m.snapshot.told
  batch-cdc link n m t = (same-self x, inl (t, (m, [], refl, refl, (refl, refl))))

  batch-at : (reach : ℕ) (link : LinkId) (n : CdcMessage) (m : Sent) → (token == n.token) ≡ true → reach ≡ m.snapshot.told → On reach (Cdc x link n ∷ []) (m ∷ []) m.snapshot.told
  batch-at reach link n m t e = subst (λ k. On k (Cdc x link n ∷ []) (m ∷ []) m.snapshot.told) (sym e) (batch-cdc link n m t)

  batch-writes : (some : 0 < size) (link : LinkId) (key : ℕ) (n : CdcMessage) (m : Sent) → (token == n.token) ≡ true → m.from ≤ m.snapshot.told → m.snapshot.told ≤ m.from + size → (a b : Bool) → (m.from == m.snapshot.told) ≡ a → nat_le (m.from % size + (m.snapshot.told - m.from)) size ≡ b →
      On m.from ((if a then [] else if b then Write x link key (address_of size place m.from) (m.snapshot.told - m.from) ∷ [] else Write x link key (address_of size place m.from) (size - m.from % size) ∷ Write x link key (address_of size place 0) (m.snapshot.told - m.from - (size - m.from % size)) ∷ []) ++ Cdc x link n ∷ []) (m ∷ []) m.snapshot.told
  batch-writes some link key n m t up near true b e f = batch-at m.from link n m t (eqb-true m.from m.snapshot.told e)
  batch-writes some link key n m t up near false true e f =
      (n, refl, inl (t, refl, leb-true (m.from % size + (m.snapshot.told - m.from)) size f, batch-at (m.from + (m.snapshot.told - m.from)) link n m t (omega (arith, up))))
  batch-writes some link key n m t up near false false e f =
      let r = next-round m.from some in
      let below = mod_below m.from size some in
      let zero-is : 0 % size ≡ 0 = ap (λ k. k % size) (let z : 0 ≡ 0 * size + 0 = omega arith in z) ∙ mod-mul-add 0 size 0 some in
      let more : size < m.from % size + (m.snapshot.told - m.from) = gt-of (m.from % size + (m.snapshot.told - m.from)) size f in (
        n,
        refl,
        inl (
          t,
          refl,
          omega (arith, below),
          (
            n,
            refl,
            inl (
              t,
              omega (arith, r, zero-is),
              omega (arith, r, near, up, below),
              batch-at (m.from + (size - m.from % size) + (m.snapshot.told - m.from - (size - m.from % size))) link n m t (omega (arith, up, more, below)),
            ),
          ),
        ),
      )

  pub batch-own : (some : 0 < size) (key : ℕ) (o : Offer) (m : Sent) → m.check ≡ false → offered_place o ≡ place → o.token ≡ token → m.from ≤ m.snapshot.told → m.snapshot.told ≤ m.from + size → On m.from (cdc_posts size x key o m) (m ∷ []) m.snapshot.told
  batch-own some key o m c at t up near =
      subst (λ (b : Bool). On m.from (if b then Cdc x m.link (validation size o.token m.snapshot) ∷ [] else writes size x m.link key (offered_place o) m.from m.snapshot.told ++ Cdc x m.link (spelled size o.token m.snapshot) ∷ []) (m ∷ []) m.snapshot.told) (sym c)
      (subst (λ q. On m.from (writes size x m.link key q m.from m.snapshot.told ++ Cdc x m.link (spelled size o.token m.snapshot) ∷ []) (m ∷ []) m.snapshot.told) (sym at)
      (batch-writes some m.link key (spelled size o.token m.snapshot) m (eq-eqb token o.token (sym t)) up near (m.from == m.snapshot.told) (nat_le (m.from % size + (m.snapshot.told - m.from)) size) refl refl))

  -- a batch of another end
  else-writes : (last : ℕ) (link : LinkId) (n : CdcMessage) (p q r : Post) (a b : Bool) → (token == n.token) ≡ false → ((rest : List Post) → next_cdc rest ≡ Some n → On last rest [] last → On last (p ∷ rest) [] last) → ((rest : List Post) → next_cdc rest ≡ Some n → On last rest [] last → On last (q ∷ rest) [] last × (next_cdc (q ∷ rest) ≡ Some n)) →
      ((rest : List Post) → next_cdc rest ≡ Some n → On last rest [] last → On last (r ∷ rest) [] last × (next_cdc (r ∷ rest) ≡ Some n)) → On last ((if a then [] else if b then p ∷ [] else q ∷ r ∷ []) ++ Cdc x link n ∷ []) [] last
  else-writes last link n p q r true b t f g h = (same-self x, inr (t, (refl, refl)))
  else-writes last link n p q r false true t f g h = f (Cdc x link n ∷ []) refl (same-self x, inr (t, (refl, refl)))
  else-writes last link n p q r false false t f g h = let z = h (Cdc x link n ∷ []) refl (same-self x, inr (t, (refl, refl))) in let y = g (r ∷ Cdc x link n ∷ []) z.1 z.0 in y.0

  pub batch-else : (last key : ℕ) (o : Offer) (m : Sent) → (token == o.token) ≡ false → On last (cdc_posts size x key o m) [] last
  batch-else last key o m t = by m.check
    where
      by : (b : Bool) → On last (if b then Cdc x m.link (validation size o.token m.snapshot) ∷ [] else writes size x m.link key (offered_place o) m.from m.snapshot.told ++ Cdc x m.link (spelled size o.token m.snapshot) ∷ []) [] last
      by true = (same-self x, inr (t, (refl, refl)))
      by false = else-writes last m.link (spelled size o.token m.snapshot) _ _ _ (m.from == m.snapshot.told) (nat_le (m.from % size + (m.snapshot.told - m.from)) size) t
          (λ rest e c. (spelled size o.token m.snapshot, e, inr (t, c))) (λ rest e c. ((spelled size o.token m.snapshot, e, inr (t, c)), e)) (λ rest e c. ((spelled size o.token m.snapshot, e, inr (t, c)), e))

-- which posts of a batch are on a link
pub each-batch : (P : Post → Type 0) (size : ℕ) (x : Side) (key : ℕ) (o : Offer) (m : Sent) → ((address len : ℕ) → P (Write x m.link key address len)) → ((n : CdcMessage) → n.token ≡ o.token → P (Cdc x m.link n)) → EachPost P (cdc_posts size x key o m)
each-batch P size x key o m w c = by m.check
  where
    of-writes : (a b : Bool) (p q r : Post) (n : CdcMessage) → n.token ≡ o.token → P p → P q → P r → EachPost P ((if a then [] else if b then p ∷ [] else q ∷ r ∷ []) ++ Cdc x m.link n ∷ [])
    of-writes true b p q r n t i j k = (c n t, tt)
    of-writes false true p q r n t i j k = (i, (c n t, tt))
    of-writes false false p q r n t i j k = (j, (k, (c n t, tt)))

    by : (b : Bool) → EachPost P (if b then Cdc x m.link (validation size o.token m.snapshot) ∷ [] else writes size x m.link key (offered_place o) m.from m.snapshot.told ++ Cdc x m.link (spelled size o.token m.snapshot) ∷ [])
    by true = (c (validation size o.token m.snapshot) refl, tt)
    by false = of-writes (m.from == m.snapshot.told) (nat_le (m.from % size + (m.snapshot.told - m.from)) size) _ _ _ (spelled size o.token m.snapshot) refl (w _ _) (w _ _) (w _ _)

pub filter-all : (test : Post → Bool) (ps : List Post) → EachPost (λ p. test p ≡ true) ps → filter test ps ≡ ps
filter-all test [] e = refl
filter-all test (p ∷ ps) e = ap (λ b. cond b (p ∷ filter test ps) (filter test ps)) e.0 ∙ ap (λ qs. p ∷ qs) (filter-all test ps e.1)

pub filter-none : (test : Post → Bool) (ps : List Post) → EachPost (λ p. test p ≡ false) ps → filter test ps ≡ []
filter-none test [] e = refl
filter-none test (p ∷ ps) e = ap (λ b. cond b (p ∷ filter test ps) (filter test ps)) e.0 ∙ filter-none test ps e.1

each-cond : (P : Post → Type 0) (b : Bool) (p : Post) (ps : List Post) → P p → EachPost P ps → EachPost P (cond b (p ∷ ps) ps)
each-cond P true p ps i e = (i, e)
each-cond P false p ps i e = e

pub each-filter : (P : Post → Type 0) (test : Post → Bool) (ps : List Post) → EachPost P ps → EachPost P (filter test ps)
each-filter P test [] e = tt
each-filter P test (p ∷ ps) e = each-cond P (test p) p (filter test ps) e.0 (each-filter P test ps e.1)
