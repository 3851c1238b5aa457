-- Tables of connections that change.
-- A reader learns here what a table keeps when a connection begins, learns of its peer, changes, or leaves.
use Rattle.std.proofs.Common.{◌≡◌, ◌≢◌, ◌∙◌, ℕ, ◌+◌, ◌-◌, ◌<◌, ◌≤◌, List, [], ◌∷◌, ◌++◌, length, get_or, set, All, Option, Some, None, refl, sym, ap, subst, arith, inl, inr, true≢false, false, ◌==◌}
use Rattle.std.proofs.lemmas.Bool.{cases_eq, eq-eqb}
use Rattle.std.proofs.lemmas.List.{get_or-set_same, get_or-set_other, length-set, length-append, get_or_append_left}
use Rattle.std.proofs.lemmas.List.Elements.{All-push}
use Rattle.smc_num.specs.Places.{rmb_at}
use Rattle.clc_wire.specs.declared.offer.Offer.{Offer}
use Rattle.pipe_model.specs.Pipe.{Terms}
use Rattle.pipe_model.specs.Words.{passes}
use Rattle.conn_end.specs.Kept.{Kept}
use Rattle.side_core.specs.Records.{Connection, is_aimed_at}
use Rattle.side_core.specs.Slots.{Slots, slot_at}
use Rattle.side_core.specs.Inside.{IsTable, IsFiled, IsFiledAt, IsPeerNamed, IsMade}
use Rattle.side_core.proofs.Sockets.Tokens.{named_before, named_elsewhere, named_there}

-- one slot of a shelf is filed otherwise, and all others as they are
each_filed : (terms : Terms) (bt bp bt' bp' : List ℕ) (slots : List (Option (Connection Kept))) (s : ℕ) (x : Option (Connection Kept)) → s < length slots → IsFiledAt terms bt' bp' s x → ((t : ℕ) → t ≢ s → IsFiledAt terms bt bp t (get_or slots t None) → IsFiledAt terms bt' bp' t (get_or slots t None)) → ((t : ℕ) → IsFiledAt terms bt bp t (get_or slots t None)) → (t : ℕ) → IsFiledAt terms bt' bp' t (get_or (set slots s x) t None)
each_filed terms bt bp bt' bp' slots s x within here others each t = elim (cases_eq t s) [
  | inl is ↦ subst (IsFiledAt terms bt' bp' t) (sym (ap (λ n. get_or (set slots s x) n None) is ∙ get_or-set_same slots s x None within)) (subst (λ n. IsFiledAt terms bt' bp' n x) (sym is) here)
  | inr differs ↦ subst (IsFiledAt terms bt' bp' t) (sym (get_or-set_other slots s t x None differs)) (others t differs (each t))
]

-- a connection changes
pub table_changed : (terms : Terms) (shelf new : Slots) (bt bp : List ℕ) (idle : List Kept) (m n s : ℕ) (x : Connection Kept) → IsTable terms shelf bt bp idle m n → s < length shelf.slots → new.slots ≡ set shelf.slots s (Some x) → new.room ≡ shelf.room → new.capacity ≡ shelf.capacity → IsFiled terms bt bp s x → IsTable terms new bt bp idle m n
table_changed terms shelf new bt bp idle m n s x table within slots room capacity filed = record {
  some = table.some;
  each = λ t. subst (λ xs. IsFiledAt terms bt bp t (get_or xs t None)) (sym slots) (each_filed terms bt bp bt bp shelf.slots s (Some x) within filed (λ t differs f. f) table.each t);
  made = table.made;
  spare = omega (arith, table.spare, room);
  peers = table.peers ∙ sym (length-set shelf.slots s (Some x)) ∙ sym (ap length slots);
  token_room = omega (arith, table.token_room, ap length slots, length-set shelf.slots s (Some x));
  most = omega (arith, table.most, room, capacity);
  idle_room = omega (arith, table.idle_room, capacity);
}

-- a connection begins with the next token
pub table_begun : (terms : Terms) (shelf new : Slots) (bt bp : List ℕ) (idle left : List Kept) (k : Kept) (m n s : ℕ) (x : Connection Kept) → IsTable terms shelf bt bp idle m n → s < length shelf.slots → idle ≡ left ++ k ∷ [] → new.slots ≡ set shelf.slots s (Some x) → new.room + 1 ≡ shelf.room → new.capacity ≡ shelf.capacity → IsFiled terms (bt ++ s ∷ []) bp s x → IsTable terms new (bt ++ s ∷ []) bp left m n
table_begun terms shelf new bt bp idle left k m n s x table within split slots room capacity filed = record {
  some = table.some;
  each = λ t. subst (λ xs. IsFiledAt terms (bt ++ s ∷ []) bp t (get_or xs t None)) (sym slots)
      (each_filed terms bt bp (bt ++ s ∷ []) bp shelf.slots s (Some x) within filed (λ t _ f. still t (get_or shelf.slots t None) f) table.each t);
  made = λ i d inside. subst (IsMade terms) (get_or_append_left left (k ∷ []) d i inside) (all_of (left ++ k ∷ []) (subst (All (IsMade terms)) split table.made) i d (omega (arith, inside, length-append left (k ∷ []))));
  spare = omega (arith, table.spare, room, ap length split, length-append left (k ∷ []));
  peers = table.peers ∙ sym (length-set shelf.slots s (Some x)) ∙ sym (ap length slots);
  token_room = omega (arith, table.token_room, ap length slots, length-set shelf.slots s (Some x));
  most = omega (arith, table.most, room, capacity);
  idle_room = omega (arith, table.idle_room, capacity);
}
  where
    still : (t : ℕ) (c : Option (Connection Kept)) → IsFiledAt terms bt bp t c → IsFiledAt terms (bt ++ s ∷ []) bp t c
    still t None f = tt
    still t (Some c) f = record { made = f.made; set = f.set; own = named_before c.route.token t s bt f.own; peer = f.peer }

    all_of : (xs : List Kept) → All (IsMade terms) xs → (i : ℕ) (d : Kept) → i < length xs → IsMade terms (get_or xs i d)
    all_of xs all i d inside = all i d inside

-- a connection leaves, and its end is spare again
pub table_left : (terms : Terms) (shelf new : Slots) (bt bp : List ℕ) (idle : List Kept) (m n s : ℕ) (x : Connection Kept) → IsTable terms shelf bt bp idle m n → slot_at s shelf ≡ Some x → s < length shelf.slots → new.slots ≡ set shelf.slots s None → new.room ≡ shelf.room + 1 → new.room ≤ new.capacity → new.capacity ≡ shelf.capacity → IsTable terms new bt bp (idle ++ x.end ∷ []) m n
table_left terms shelf new bt bp idle m n s x table is within slots room most capacity = record {
  some = table.some;
  each = λ t. subst (λ xs. IsFiledAt terms bt bp t (get_or xs t None)) (sym slots) (each_filed terms bt bp bt bp shelf.slots s None within tt (λ t differs f. f) table.each t);
  made = All-push (IsMade terms) idle x.end table.made (made_of (subst (IsFiledAt terms bt bp s) is (table.each s)));
  spare = omega (arith, table.spare, room, length-append idle (x.end ∷ []));
  peers = table.peers ∙ sym (length-set shelf.slots s None) ∙ sym (ap length slots);
  token_room = omega (arith, table.token_room, ap length slots, length-set shelf.slots s None);
  most = most;
  idle_room = omega (arith, table.idle_room, capacity);
}
  where
    made_of : IsFiled terms bt bp s x → IsMade terms x.end
    made_of f = f.made

-- a connection learns of its peer, whose token named no connection
pub table_aimed : (terms : Terms) (shelf new : Slots) (bt bp : List ℕ) (idle : List Kept) (m n s : ℕ) (o : Offer) (x : Connection Kept) → IsTable terms shelf bt bp idle m n → s < length shelf.slots → ((t : ℕ) → is_aimed_at o.token (slot_at t shelf) ≡ false) → 1 ≤ o.token → new.slots ≡ set shelf.slots s (Some x) → new.room ≡ shelf.room → new.capacity ≡ shelf.capacity → IsFiled terms bt (set bp (o.token - 1) s) s x → IsTable terms new bt (set bp (o.token - 1) s) idle m n
table_aimed terms shelf new bt bp idle m n s o x table within alone some slots room capacity filed = record {
  some = table.some;
  each = λ t. subst (λ xs. IsFiledAt terms bt (set bp (o.token - 1) s) t (get_or xs t None)) (sym slots)
      (each_filed terms bt bp bt (set bp (o.token - 1) s) shelf.slots s (Some x) within filed (λ t _ f. still t (get_or shelf.slots t None) (alone t) f) table.each t);
  made = table.made;
  spare = omega (arith, table.spare, room);
  peers = length-set bp (o.token - 1) s ∙ table.peers ∙ sym (length-set shelf.slots s (Some x)) ∙ sym (ap length slots);
  token_room = omega (arith, table.token_room, ap length slots, length-set shelf.slots s (Some x));
  most = omega (arith, table.most, room, capacity);
  idle_room = omega (arith, table.idle_room, capacity);
}
  where
    still_named : (t : ℕ) (p : Option Offer) → passes (λ (q : Offer). q.token == o.token) p ≡ false → IsPeerNamed bp t p → IsPeerNamed (set bp (o.token - 1) s) t p
    still_named t None fails named = tt
    still_named t (Some p) fails named = named_elsewhere o.token p.token t s bp some (λ e. true≢false (sym (eq-eqb p.token o.token (sym e)) ∙ fails)) named

    still : (t : ℕ) (c : Option (Connection Kept)) → is_aimed_at o.token c ≡ false → IsFiledAt terms bt bp t c → IsFiledAt terms bt (set bp (o.token - 1) s) t c
    still t None fails f = tt
    still t (Some c) fails f = record { made = f.made; set = f.set; own = f.own; peer = still_named t c.route.peer fails f.peer }

-- the last of a list
get_last : (xs : List Kept) (k : Kept) → get_or (xs ++ k ∷ []) (length xs) k ≡ k
get_last [] k = refl
get_last (x ∷ xs) k = get_last xs k

pub last_made : (terms : Terms) (idle left : List Kept) (k : Kept) → All (IsMade terms) idle → idle ≡ left ++ k ∷ [] → IsMade terms k
last_made terms idle left k all split = subst (IsMade terms) (get_last left k) (of (left ++ k ∷ []) (subst (All (IsMade terms)) split all) (length left) k (omega (arith, length-append left (k ∷ []))))
  where
    of : (xs : List Kept) → All (IsMade terms) xs → (i : ℕ) (d : Kept) → i < length xs → IsMade terms (get_or xs i d)
    of xs all i d inside = all i d inside

-- a connection that learns of its peer
pub filed_aimed : (terms : Terms) (bt bp : List ℕ) (s : ℕ) (o : Offer) (old : Connection Kept) (end : Kept) → IsFiled terms bt bp s old → end ≡ record old.end { token = o.token } → 1 ≤ o.token → o.token ≤ length bp → rmb_at o.address < 256 → 1 ≤ o.index → IsFiled terms bt (set bp (o.token - 1) s) s (record { route = record old.route { peer = Some o }; end = end })
filed_aimed terms bt bp s o old end filed is some most rmb index = subst (λ (e : Kept). IsFiled terms bt (set bp (o.token - 1) s) s (record { route = record old.route { peer = Some o }; end = e })) (sym is) (record {
  made = record { size = filed.made.size; depth = filed.made.depth; first = filed.made.first };
  set = record { kept = filed.set.kept; owes = filed.set.owes; aimed = record { token = refl; rmb = rmb; index = index } };
  own = filed.own;
  peer = named_there o.token s bp some most;
})
