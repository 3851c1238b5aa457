-- A use: the CDC message that is first on a link which its side has not lost is the next one of one end, whose link it is.
use Rattle.std.proofs.Common.{Bool, List, ap, arith, eqb-true, false, if◌then◌else◌, inl, inr, map, refl, subst, suc, sym, true, zero, ℕ, ◌<◌, ◌==◌, ◌∙◌, ◌∷◌, ◌≡◌, ◌≤◌, ◌⊎◌}
use Rattle.std.specs.Prelude.{None, Option, Some}
use Rattle.std.proofs.lemmas.Bool.{cases_lt, eqb-false}
use Rattle.std.specs.List.{cons_option}
use Rattle.pipe_model.specs.Ends.{fresh}
use Rattle.history_laws.specs.Words.{CdcMessage, Entry, Half, LinkId, Offered, Placed, Setup, Side, element_size, group_on, half, head, offered, other, pipe_of, same_link, to_land, unlanded}
use Rattle.history_laws.specs.Wires.{IsElse, cdc_under, cdcs, message}
use Rattle.history_laws.proofs.Basics.{begins, by-bool, link-is}
use Rattle.link_laws.specs.Lasting.{is_lost}
use Rattle.wire_laws.specs.Agreement.{Agrees, IsOneEnds, OwedToAgreement}
use Rattle.wire_laws.proofs.Agreement.Step.{no-head}

-- a token is none that a side offered, or it is that of one offer
module _ (setup : Setup) (payload : List ℕ) (past : List Entry) (owed : OwedToAgreement setup payload past) (y : Side) (token : ℕ) where
  abbrev pub Found : Type 0
  Found = (s : ℕ) × ((o : Offered) × ((offered y s past ≡ Some o) × (token ≡ o.offer.token)))

  one-of : (s : ℕ) → IsElse token (offered y s past) ⊎ Found
  one-of s = by (offered y s past) refl
    where
      by : (q : Option Offered) → offered y s past ≡ q → IsElse token q ⊎ Found
      by None f = inl tt
      by (Some o) f = by-bool _ (token == o.offer.token) (λ c. inr (s, (o, (f, eqb-true token o.offer.token c)))) (λ c. inl c)

  none-beyond : (s : ℕ) → setup.sockets ≤ s → IsElse token (offered y s past)
  none-beyond s l = by (offered y s past) refl
    where
      by : (q : Option Offered) → offered y s past ≡ q → IsElse token q
      by None f = tt
      by (Some o) f = absurd (omega (arith, l, owed.known y s o f))

  abbrev Upto : ℕ → Type 0
  Upto n = (s : ℕ) → s < n → IsElse token (offered y s past)

  more : (n : ℕ) → Upto n → IsElse token (offered y n past) → Upto (suc n)
  more n u e s l = by-bool _ (s == n) (λ c. subst (λ k. IsElse token (offered y k past)) (sym (eqb-true s n c)) e) (λ c. u s (below (s == n) refl c))
    where
      below : (b : Bool) → (s == n) ≡ b → (s == n) ≡ false → s < n
      below b i c = omega (arith, l, eqb-false s n c)

  search : (n : ℕ) → Upto n ⊎ Found
  search zero = inl (λ s l. absurd (omega (arith, l)))
  search (suc n) = by (search n) (one-of n)
    where
      by : Upto n ⊎ Found → IsElse token (offered y n past) ⊎ Found → Upto (suc n) ⊎ Found
      by (inr f) q = inr f
      by (inl u) (inr f) = inr f
      by (inl u) (inl e) = inl (more n u e)

  pub find-token : ((s : ℕ) → IsElse token (offered y s past)) ⊎ Found
  find-token = by (search setup.sockets)
    where
      by : Upto setup.sockets ⊎ Found → ((s : ℕ) → IsElse token (offered y s past)) ⊎ Found
      by (inr f) = inr f
      by (inl u) = inl (λ s. elim (cases_lt s setup.sockets) [
        | inl less ↦ u s less
        | inr more ↦ none-beyond s more
      ])

pub first-is-next : (setup : Setup) (payload : List ℕ) (past : List Entry) → OwedToAgreement setup payload past → Agrees setup payload past → (x : Side) (link : LinkId) → is_lost x link past ≡ false → (c : Placed) (rest : List Placed) → unlanded link x past ≡ c ∷ rest →
    (m : CdcMessage) → cdc_under x m.token c.post ≡ Some m → IsOneEnds setup payload x link past m
first-is-next setup payload past owed agree x link kept c rest w m n = by (find-token setup payload past owed (other x) m.token)
  where
    is-it : (token : ℕ) → m.token ≡ token → m ∷ cdcs x token rest ≡ cdcs x token (unlanded link x past)
    is-it token t = ap (λ o. cons_option o (cdcs x token rest)) (sym (ap (λ k. cdc_under x k c.post) (sym t) ∙ n)) ∙ ap (λ ps. cdcs x token ps) (sym w)

    own : (s : ℕ) (o : Offered) → offered (other x) s past ≡ Some o → m.token ≡ o.offer.token → IsOneEnds setup payload x link past m
    own s o f t = by-bool _ (same_link link h.link) here beside
      where
        h : Half
        h = half x (pipe_of setup payload (group_on s past) s past)

        line : m ∷ cdcs x o.offer.token rest ≡ map (message (element_size setup) o.offer.token) (to_land (if same_link link h.link then h else fresh 0))
        line = let q = agree.carried x s o f link kept in is-it o.offer.token t ∙ q.landing

        here : same_link link h.link ≡ true → IsOneEnds setup payload x link past m
        here e =
            let b = begins (message (element_size setup) o.offer.token) m (cdcs x o.offer.token rest) (to_land h) (line ∙ ap (λ (d : Bool). map (message (element_size setup) o.offer.token) (to_land (if d then h else fresh 0))) e) in
            record { s = s; offer = o; offered_is = f; token = t; link_is = link-is link h.link e; sent = b.x; sent_is = ap (λ ms. head ms) b.is; spells = b.first_is }

        beside : same_link link h.link ≡ false → IsOneEnds setup payload x link past m
        beside e = absurd (no-head m (cdcs x o.offer.token rest) (line ∙ ap (λ (d : Bool). map (message (element_size setup) o.offer.token) (to_land (if d then h else fresh 0))) e))

    by : ((s : ℕ) → IsElse m.token (offered (other x) s past)) ⊎ Found setup payload past owed (other x) m.token → IsOneEnds setup payload x link past m
    by (inl none) = let q = agree.strange x m.token none link in absurd (no-head m (cdcs x m.token rest) (is-it m.token refl ∙ q.landing))
    by (inr f) = let o = f.1 in let q = o.1 in own f.0 o.0 q.0 q.1
