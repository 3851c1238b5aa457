-- Records of a slab, found by their sockets' keys.
-- A reader learns here why a change of one record changes what its own socket finds, and nothing else.
use Rattle.std.proofs.Common.{◌≡◌, ◌≢◌, ◌∙◌, ℕ, zero, suc, ◌<◌, ◌-◌, List, ◌∷◌, length, map, get_or, set, replicate, Option, Some, None, IsSome, option_map, refl, sym, ap, subst, arith, inl, inr, count_by, is_some, ap₂, cond}
use Rattle.std.proofs.Math.ListN.{get_or-map}
use Rattle.std.proofs.lemmas.Bool.{cases_eq}
use Rattle.std.proofs.lemmas.List.{ext_get_or, length-map, length-set, get_or-set_same, get_or-set_other, get_or_past, get_or_default}
use Rattle.std.proofs.lemmas.List.Sums.{sum_by-set}
use Rattle.slab.specs.Slab.{Slab, get, Updates, with_value, ContainsKey}
use Rattle.slab.proofs.SlabLemmas.{Updates-with_value}
use Rattle.conn_end.specs.Kept.{Kept}
use Rattle.side_core.specs.Records.{Connection}
use Rattle.side_core.specs.Slots.{Slots, conn_of, found, slots_of, with_slot, IsOf, IsKeyOf, IsShelf}
use Rattle.side_core.specs.declared.shelf.Held.{Held}

-- what a socket finds
pub slot_is : (held : List (Option Held)) (keys : List (Option ℕ)) (s : ℕ) → get_or (map (found held) keys) s None ≡ found held (get_or keys s None)
slot_is held keys s = get_or-map (found held) keys s None

-- a socket that finds something is in range
pub in_range : (held : List (Option Held)) (keys : List (Option ℕ)) (s key : ℕ) → get_or keys s None ≡ Some key → s < length keys
in_range held keys s key is = grind (arith, get_or_past)

-- what is read from an index in range
within_some : {X : Type 0} (xs : List (Option X)) (s : ℕ) → IsSome (get_or xs s None) → s < length xs
within_some xs s some = grind (arith, get_or_past)

pub key_here : (held : List (Option Held)) (keys : List (Option ℕ)) (s key : ℕ) (x : Option ℕ) → IsSome (get_or (map (found held) keys) s None) → x ≡ get_or keys s x → x ≡ Some key → get_or keys s None ≡ Some key
key_here held keys s key x some read is = get_or_default keys s None x (subst (λ n. s < n) (length-map keys (found held)) (within_some (map (found held) keys) s some)) ∙ sym read ∙ is

-- an empty slot has no key
pub is_vacant : (held : List (Option Held)) (key t : ℕ) (k : Option ℕ) → get_or held key None ≡ None → IsKeyOf held t k → k ≢ Some key
is_vacant held key t k vacant own is = subst (IsOf t) vacant (subst (IsKeyOf held t) is own)

-- a record is found by one socket alone
one_socket : (slot : Option Held) (s t : ℕ) → IsOf s slot → IsOf t slot → t ≡ s
one_socket None s t a b = absurd a
one_socket (Some h) s t a b = sym b ∙ a

pub is_another : (held : List (Option Held)) (key s t : ℕ) (k : Option ℕ) → IsKeyOf held s (Some key) → t ≢ s → IsKeyOf held t k → k ≢ Some key
is_another held key s t k mine differs own is = differs (one_socket (get_or held key None) s t mine (subst (IsKeyOf held t) is own))

-- what is not found under a key that changes stays
pub found_same : (old new : List (Option Held)) (key : ℕ) (k : Option ℕ) → ((other : ℕ) → other ≢ key → get_or new other None ≡ get_or old other None) → k ≢ Some key → found new k ≡ found old k
found_same old new key None others differs = refl
found_same old new key (Some j) others differs = ap (option_map (λ h. conn_of h.record)) (others j (λ e. differs (ap Some e)))

pub owns_same : (old new : List (Option Held)) (key t : ℕ) (k : Option ℕ) → ((other : ℕ) → other ≢ key → get_or new other None ≡ get_or old other None) → k ≢ Some key → IsKeyOf old t k → IsKeyOf new t k
owns_same old new key t None others differs own = own
owns_same old new key t (Some j) others differs own = subst (IsOf t) (sym (others j (λ e. differs (ap Some e)))) own

-- where one socket finds something else, and all others what they found
pub changes_one : (old new : List (Option Held)) (keys more : List (Option ℕ)) (s : ℕ) (x : Option (Connection Kept)) → s < length keys → length more ≡ length keys → found new (get_or more s None) ≡ x → ((t : ℕ) → t ≢ s → found new (get_or more t None) ≡ found old (get_or keys t None)) → map (found new) more ≡ set (map (found old) keys) s x
changes_one old new keys more s x within same here others =
    ext_get_or None (map (found new) more) (set (map (found old) keys) s x)
    (length-map more (found new) ∙ same ∙ sym (length-map keys (found old)) ∙ sym (length-set (map (found old) keys) s x))
    (λ t _. elim (cases_eq t s) [
      | inl is ↦ slot_is new more t ∙ ap (λ n. found new (get_or more n None)) is ∙ here ∙ sym (ap (λ n. get_or (set (map (found old) keys) s x) n None) is ∙ get_or-set_same (map (found old) keys) s x None (subst (λ n. s < n) (sym (length-map keys (found old))) within))
      | inr differs ↦ slot_is new more t ∙ others t differs ∙ sym (slot_is old keys t) ∙ sym (get_or-set_other (map (found old) keys) s t x None differs)
    ])

-- a record comes under a vacant key, for a socket that has none
module _ (old new : Slab Held) (keys : List (Option ℕ)) (s key : ℕ) (h : Held) (within : s < length keys) (own : IsShelf old keys) (vacant : get old key ≡ None) (updates : Updates old new key (Some h)) (mine : h.s ≡ s) where
  more : List (Option ℕ)
  more = set keys s (Some key)

  here : get_or (set keys s (Some key)) s None ≡ Some key
  here = get_or-set_same keys s (Some key) None within

  there : (t : ℕ) → t ≢ s → get_or (set keys s (Some key)) t None ≡ get_or keys t None
  there t differs = get_or-set_other keys s t (Some key) None differs

  pub put_slots : map (found new.slots) (set keys s (Some key)) ≡ set (map (found old.slots) keys) s (Some (conn_of h.record))
  put_slots = changes_one old.slots new.slots keys (set keys s (Some key)) s (Some (conn_of h.record)) within (length-set keys s (Some key))
      (ap (found new.slots) here ∙ ap (option_map (λ (x : Held). conn_of x.record)) updates.changed)
      (λ t differs. ap (found new.slots) (there t differs) ∙ found_same old.slots new.slots key (get_or keys t None) updates.others (is_vacant old.slots key t (get_or keys t None) vacant (own t)))

  pub put_owns : IsShelf new (set keys s (Some key))
  put_owns t = elim (cases_eq t s) [
    | inl is ↦ subst (IsKeyOf new.slots t) (sym (ap (λ n. get_or (set keys s (Some key)) n None) is ∙ here)) (subst (IsOf t) (sym updates.changed) (mine ∙ sym is))
    | inr differs ↦ subst (IsKeyOf new.slots t) (sym (there t differs)) (owns_same old.slots new.slots key t (get_or keys t None) updates.others (is_vacant old.slots key t (get_or keys t None) vacant (own t)) (own t))
  ]

-- a record goes
module _ (old new : Slab Held) (keys : List (Option ℕ)) (s key : ℕ) (own : IsShelf old keys) (is : get_or keys s None ≡ Some key) (updates : Updates old new key None) where
  gone : get_or (set keys s None) s None ≡ None
  gone = get_or-set_same keys s None None (in_range old.slots keys s key is)

  rest : (t : ℕ) → t ≢ s → get_or (set keys s None) t None ≡ get_or keys t None
  rest t differs = get_or-set_other keys s t None None differs

  another : (t : ℕ) → t ≢ s → get_or keys t None ≢ Some key
  another t differs = is_another old.slots key s t (get_or keys t None) (subst (IsKeyOf old.slots s) is (own s)) differs (own t)

  pub take_slots : map (found new.slots) (set keys s None) ≡ set (map (found old.slots) keys) s None
  take_slots = changes_one old.slots new.slots keys (set keys s None) s None (in_range old.slots keys s key is) (length-set keys s None)
      (ap (found new.slots) gone)
      (λ t differs. ap (found new.slots) (rest t differs) ∙ found_same old.slots new.slots key (get_or keys t None) updates.others (another t differs))

  pub take_owns : IsShelf new (set keys s None)
  take_owns t = elim (cases_eq t s) [
    | inl same ↦ subst (IsKeyOf new.slots t) (sym (ap (λ n. get_or (set keys s None) n None) same ∙ gone)) tt
    | inr differs ↦ subst (IsKeyOf new.slots t) (sym (rest t differs)) (owns_same old.slots new.slots key t (get_or keys t None) updates.others (another t differs) (own t))
  ]

-- a record becomes another one
pub write_slots : (old new : Slab Held) (keys : List (Option ℕ)) (s key : ℕ) (h : Held) → IsShelf old keys → get_or keys s None ≡ Some key → Updates old new key (Some h) → map (found new.slots) keys ≡ set (map (found old.slots) keys) s (Some (conn_of h.record))
write_slots old new keys s key h own is updates = changes_one old.slots new.slots keys keys s (Some (conn_of h.record)) (in_range old.slots keys s key is) refl
    (ap (found new.slots) is ∙ ap (option_map (λ (x : Held). conn_of x.record)) updates.changed)
    (λ t differs. found_same old.slots new.slots key (get_or keys t None) updates.others (is_another old.slots key s t (get_or keys t None) (subst (IsKeyOf old.slots s) is (own s)) differs (own t)))

-- no records
pub no_records_found : (held : List (Option Held)) (n : ℕ) → map (found held) (replicate n None) ≡ replicate n None
no_records_found held zero = refl
no_records_found held (suc n) = ap (λ r. None ∷ r) (no_records_found held n)

-- what a socket finds under its key
pub finds : (held : Slab Held) (keys : List (Option ℕ)) (s key : ℕ) (h : Held) → get_or keys s None ≡ Some key → get held key ≡ Some h → get_or (map (found held.slots) keys) s None ≡ Some (conn_of h.record)
finds held keys s key h is here = slot_is held.slots keys s ∙ ap (found held.slots) is ∙ ap (option_map (λ (x : Held). conn_of x.record)) here

-- the length that the sockets' keys have
pub key_within : (held : List (Option Held)) (keys : List (Option ℕ)) (slots : List (Option (Connection Kept))) (s : ℕ) → map (found held) keys ≡ slots → s < length slots → s < length keys
key_within held keys slots s view within = subst (λ n. s < n) (sym (ap length view) ∙ length-map keys (found held)) within

-- what a shelf shows once a record was written
pub written : (held : Slab Held) (keys : List (Option ℕ)) (s key : ℕ) (h : Held) → IsShelf held keys → get_or keys s None ≡ Some key → ContainsKey held key → slots_of (with_value held key h) keys ≡ with_slot s (Some (conn_of h.record)) (slots_of held keys)
written held keys s key h own is there =
    ap₂ (λ (a : List (Option (Connection Kept))) (n : ℕ). let v : Slots = record { slots = a; room = held.capacity - n; capacity = held.capacity } in v)
    (write_slots held (with_value held key h) keys s key h own is (Updates-with_value held key h there))
    (as_many held.slots key h there)
  where
    as_many : (slots : List (Option Held)) (key : ℕ) (h : Held) → IsSome (get_or slots key None) → count_by is_some (set slots key (Some h)) ≡ count_by is_some slots
    as_many slots key h some =
        omega (arith, sum_by-set (λ (x : Option Held). cond (is_some x) 1 0) slots key (Some h) None (within_some slots key some), ap {B = ℕ} (λ b. cond b 1 0) some)
