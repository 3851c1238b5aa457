-- Tokens, and the sockets that they name.
-- A reader learns here why the one record that a token's socket has answers for all.
use Rattle.std.proofs.Common.{◌≡◌, ◌≢◌, ◌∙◌, ℕ, zero, suc, ◌+◌, ◌-◌, ◌<◌, ◌≤◌, ◌==◌, Bool, true, false, cond, List, [], ◌∷◌, ◌++◌, length, set, slice_get, Option, Some, None, is_some, unwrap_or, refl, sym, ap, subst, arith, true≢false, inl, inr, get_or, nat_lt}
use Rattle.std.specs.List.{position, position_or_len}
use Rattle.std.proofs.lemmas.Bool.{eqb-true, eq-eqb, ne_eqb, cases_eq, cases_lt, lt-ltb}
use Rattle.std.proofs.lemmas.List.{get_or-set_same, get_or-set_other, get_or_past, length-set}
use Rattle.std.proofs.lemmas.List.Quantifiers.{position-Some}
use Rattle.std.proofs.lemmas.List.Sums.{position_or_len_is, fails_before_first}
use Rattle.std.proofs.lemmas.Option.{slice_get_within, slice_get-get_or, get_or_from_slice_get}
use Rattle.clc_wire.specs.declared.offer.Offer.{Offer}
use Rattle.pipe_model.specs.Pipe.{Terms}
use Rattle.pipe_model.specs.Words.{passes}
use Rattle.conn_end.specs.Kept.{Kept}
use Rattle.side_core.specs.Records.{Connection, has_token, is_aimed_at}
use Rattle.side_core.specs.Slots.{Slots, slot_at}
use Rattle.side_core.specs.Inside.{socket_named, IsPeerNamed, IsFiledAt}

-- where nothing passes
pub none_passes : {X : Type 0} (p : X → Bool) (xs : List X) (d : X) → ((t : ℕ) → p (get_or xs t d) ≡ false) → position p xs ≡ None
none_passes p xs d none = by_place (position p xs) refl
  where
    by_place : (o : Option ℕ) → position p xs ≡ o → position p xs ≡ None
    by_place None e = e
    by_place (Some i) e = absurd (true≢false (sym (position-Some p xs i d e).1 ∙ none i))

-- where nothing was found, nothing passes
pub none_found : {X : Type 0} (p : X → Bool) (xs : List X) (d : X) (t : ℕ) → p d ≡ false → position p xs ≡ None → p (get_or xs t d) ≡ false
none_found p xs d t fails_there none = by_test (p (get_or xs t d)) refl
  where
    missing : position_or_len p xs < length xs → ⊥
    missing within = true≢false (sym (ap is_some (sym none ∙ ap (λ (b : Bool). cond b (Some (position_or_len p xs)) None) (lt-ltb (position_or_len p xs) (length xs) within))))

    by_test : (b : Bool) → p (get_or xs t d) ≡ b → p (get_or xs t d) ≡ false
    by_test false e = e
    by_test true e = elim (cases_lt t (position_or_len p xs)) [
      | inl before ↦ fails_before_first p xs t d before
      | inr after ↦ elim (cases_lt t (length xs)) [
        | inl within ↦ absurd (missing (omega (arith, after, within)))
        | inr past ↦ ap p (get_or_past xs t d past) ∙ fails_there
      ]
    ]

-- where one passes alone
pub one_passes : {X : Type 0} (p : X → Bool) (xs : List X) (d : X) (s : ℕ) → p d ≡ false → p (get_or xs s d) ≡ true → ((t : ℕ) → p (get_or xs t d) ≡ true → t ≡ s) → position p xs ≡ Some s
one_passes p xs d s fails_there here alone = elim (cases_lt s (length xs)) [
  | inl within ↦ found within
  | inr past ↦ absurd (true≢false (sym here ∙ ap p (get_or_past xs s d past) ∙ fails_there))
]
  where
    before : (k : ℕ) → k < s → (b : Bool) → p (get_or xs k d) ≡ b → p (get_or xs k d) ≡ false
    before k less false e = e
    before k less true e = absurd (omega (arith, less, alone k e))

    found : s < length xs → position p xs ≡ Some s
    found within =
        let at : position_or_len p xs ≡ s = position_or_len_is p xs s d (omega (arith, within)) (λ k less. before k less (p (get_or xs k d)) refl) (λ _. here) in
        ap (λ (n : ℕ). cond (nat_lt n (length xs)) (Some n) None) at ∙ ap (λ (b : Bool). cond b (Some s) None) (lt-ltb s (length xs) within)

-- where at most one may pass
pub one_may_pass : {X : Type 0} (p : X → Bool) (xs : List X) (d : X) (s : ℕ) → p d ≡ false → ((t : ℕ) → p (get_or xs t d) ≡ true → t ≡ s) → position p xs ≡ cond (p (get_or xs s d)) (Some s) None
one_may_pass p xs d s fails_there alone = by_test (p (get_or xs s d)) refl
  where
    at : (t : ℕ) → (b : Bool) → p (get_or xs t d) ≡ b → p (get_or xs s d) ≡ false → p (get_or xs t d) ≡ false
    at t false e fails = e
    at t true e fails = ap (λ n. p (get_or xs n d)) (alone t e) ∙ fails

    by_test : (b : Bool) → p (get_or xs s d) ≡ b → position p xs ≡ cond (p (get_or xs s d)) (Some s) None
    by_test true e = one_passes p xs d s fails_there e alone ∙ sym (ap (λ (b : Bool). cond b (Some s) None) e)
    by_test false e = none_passes p xs d (λ t. at t (p (get_or xs t d)) refl e) ∙ sym (ap (λ (b : Bool). cond b (Some s) None) e)

-- a connection that has a token is that of the socket which the token names
has_it : (terms : Terms) (by_token by_peer : List ℕ) (t token : ℕ) (c : Option (Connection Kept)) → IsFiledAt terms by_token by_peer t c → has_token token c ≡ true → socket_named token by_token ≡ Some t
has_it terms by_token by_peer t token None filed has = absurd (true≢false (sym has))
has_it terms by_token by_peer t token (Some c) filed has = subst (λ n. socket_named n by_token ≡ Some t) (eqb-true c.route.token token has) filed.own

-- and one that is aimed at a token is that of the socket which the peer's token names
aimed_peer : (by_peer : List ℕ) (t token : ℕ) (o : Option Offer) → IsPeerNamed by_peer t o → passes (λ (x : Offer). x.token == token) o ≡ true → socket_named token by_peer ≡ Some t
aimed_peer by_peer t token None named has = absurd (true≢false (sym has))
aimed_peer by_peer t token (Some o) named has = subst (λ n. socket_named n by_peer ≡ Some t) (eqb-true o.token token has) named

aimed_it : (terms : Terms) (by_token by_peer : List ℕ) (t token : ℕ) (c : Option (Connection Kept)) → IsFiledAt terms by_token by_peer t c → is_aimed_at token c ≡ true → socket_named token by_peer ≡ Some t
aimed_it terms by_token by_peer t token None filed has = absurd (true≢false (sym has))
aimed_it terms by_token by_peer t token (Some c) filed has = aimed_peer by_peer t token c.route.peer filed.peer has

same_socket : (o : Option ℕ) (s t : ℕ) → o ≡ Some s → o ≡ Some t → t ≡ s
same_socket o s t a b = ap (λ (x : Option ℕ). unwrap_or x t) (sym b ∙ a)

module _ (terms : Terms) (shelf : Slots) (by_token by_peer : List ℕ) (each : (s : ℕ) → IsFiledAt terms by_token by_peer s (slot_at s shelf)) (token : ℕ) where
  -- the socket that a token of the side names holds the connection, if one does
  pub holder_is : (s : ℕ) → socket_named token by_token ≡ Some s → position (has_token token) shelf.slots ≡ cond (has_token token (slot_at s shelf)) (Some s) None
  holder_is s named = one_may_pass (has_token token) shelf.slots None s refl (λ t has. same_socket (socket_named token by_token) s t named (has_it terms by_token by_peer t token (slot_at t shelf) (each t) has))

  pub holder_none : socket_named token by_token ≡ None → position (has_token token) shelf.slots ≡ None
  holder_none none = none_passes (has_token token) shelf.slots None (λ t. by_test t (has_token token (slot_at t shelf)) refl)
    where
      by_test : (t : ℕ) (b : Bool) → has_token token (slot_at t shelf) ≡ b → has_token token (slot_at t shelf) ≡ false
      by_test t false e = e
      by_test t true e = absurd (true≢false (sym (ap is_some (sym none ∙ has_it terms by_token by_peer t token (slot_at t shelf) (each t) e))))

  -- and so with a token of the peer
  pub aimer_is : (s : ℕ) → socket_named token by_peer ≡ Some s → position (is_aimed_at token) shelf.slots ≡ cond (is_aimed_at token (slot_at s shelf)) (Some s) None
  aimer_is s named = one_may_pass (is_aimed_at token) shelf.slots None s refl (λ t has. same_socket (socket_named token by_peer) s t named (aimed_it terms by_token by_peer t token (slot_at t shelf) (each t) has))

  pub aimer_none : socket_named token by_peer ≡ None → position (is_aimed_at token) shelf.slots ≡ None
  aimer_none none = none_passes (is_aimed_at token) shelf.slots None (λ t. by_test t (is_aimed_at token (slot_at t shelf)) refl)
    where
      by_test : (t : ℕ) (b : Bool) → is_aimed_at token (slot_at t shelf) ≡ b → is_aimed_at token (slot_at t shelf) ≡ false
      by_test t false e = e
      by_test t true e = absurd (true≢false (sym (ap is_some (sym none ∙ aimed_it terms by_token by_peer t token (slot_at t shelf) (each t) e))))

-- a list with one socket more
get_push : (xs ys : List ℕ) (i s : ℕ) → slice_get xs i ≡ Some s → slice_get (xs ++ ys) i ≡ Some s
get_push [] ys i s e = absurd (true≢false (sym (ap is_some e)))
get_push (x ∷ xs) ys zero s e = e
get_push (x ∷ xs) ys (suc i) s e = get_push xs ys i s e

get_last : (xs : List ℕ) (y : ℕ) → slice_get (xs ++ y ∷ []) (length xs) ≡ Some y
get_last [] y = refl
get_last (x ∷ xs) y = get_last xs y

pub named_before : (token s y : ℕ) (xs : List ℕ) → socket_named token xs ≡ Some s → socket_named token (xs ++ y ∷ []) ≡ Some s
named_before token s y xs named = by_test (token == 0) named
  where
    by_test : (b : Bool) → cond b None (slice_get xs (token - 1)) ≡ Some s → cond b None (slice_get (xs ++ y ∷ []) (token - 1)) ≡ Some s
    by_test true e = absurd (true≢false (sym (ap is_some e)))
    by_test false e = get_push xs (y ∷ []) (token - 1) s e

pub named_last : (token y : ℕ) (xs : List ℕ) → token ≡ length xs + 1 → socket_named token (xs ++ y ∷ []) ≡ Some y
named_last token y xs is =
    ap (λ (b : Bool). cond b None (slice_get (xs ++ y ∷ []) (token - 1))) (ne_eqb token 0 (λ e. omega (arith, e, is)))
    ∙ ap (slice_get (xs ++ y ∷ [])) (omega (arith, is)) ∙ get_last xs y

-- a list with another socket for a token
pub named_there : (token y : ℕ) (xs : List ℕ) → 1 ≤ token → token ≤ length xs → socket_named token (set xs (token - 1) y) ≡ Some y
named_there token y xs some within =
    let inside : token - 1 < length xs = omega (arith, some, within) in
    ap (λ (b : Bool). cond b None (slice_get (set xs (token - 1) y) (token - 1))) (ne_eqb token 0 (λ e. omega (arith, e, some)))
    ∙ slice_get-get_or (set xs (token - 1) y) (token - 1) y (subst (λ n. token - 1 < n) (sym (length-set xs (token - 1) y)) inside)
    ∙ ap Some (get_or-set_same xs (token - 1) y y inside)

pub named_elsewhere : (token other s y : ℕ) (xs : List ℕ) → 1 ≤ token → token ≢ other → socket_named other xs ≡ Some s → socket_named other (set xs (token - 1) y) ≡ Some s
named_elsewhere token other s y xs some differs named = by_test (other == 0) refl named
  where
    by_test : (b : Bool) → (other == 0) ≡ b → cond b None (slice_get xs (other - 1)) ≡ Some s → cond b None (slice_get (set xs (token - 1) y) (other - 1)) ≡ Some s
    by_test true is e = absurd (true≢false (sym (ap is_some e)))
    by_test false is e =
        let within : other - 1 < length xs = slice_get_within xs (other - 1) s e in
        slice_get-get_or (set xs (token - 1) y) (other - 1) s (subst (λ n. other - 1 < n) (sym (length-set xs (token - 1) y)) within)
        ∙ ap Some (get_or-set_other xs (token - 1) (other - 1) y s (λ same. differs (back (other == 0) refl is same)) ∙ get_or_from_slice_get xs (other - 1) s s e)
      where
        back : (b : Bool) → (other == 0) ≡ b → (other == 0) ≡ false → other - 1 ≡ token - 1 → token ≡ other
        back b e nonzero same = elim (cases_eq other 0) [
          | inl zero_is ↦ absurd (true≢false (sym (eq-eqb other 0 zero_is) ∙ nonzero))
          | inr more ↦ omega (arith, more, same, some)
        ]
