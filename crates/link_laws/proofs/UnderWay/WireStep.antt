-- What is under way of a kind after one more entry: what has not landed of it, then what is posted; and dead links are out of the count.
use Rattle.std.proofs.Common.{Bool, List, None, Some, [], ap, arith, drop, false, filter, if◌then◌else◌, inl, inr, not, refl, subst, suc, sym, true, true≢false, zero, ℕ, ◌&&◌, ◌++◌, ◌<◌, ◌||◌, ◌∙◌, ◌∷◌, ◌≡◌, ◌≤◌, ◌⊎◌}
use Rattle.std.specs.Prelude.{Option, option_map}
use Rattle.pipe_model.specs.Wires.{comes_cut, cuts}
use Rattle.std.specs.List.{cons_option}
use Rattle.pipe_model.specs.declared.post.Post.TheVariants.{Clc, Write}
use Rattle.std.specs.Option.{option_or}
use Rattle.history_laws.specs.Words.{A, B, Cdc, Entry, Fabric, LinkId, Llc, LlcMessage, Placed, Post, Side, fabric, if_latest, is_cut, is_dead, is_on, leaves, link_at, made_on, next_number, numbered, peer, same_link, same_side, stands, table_of, unlanded}
use Rattle.history_laws.proofs.Basics.{link-is, none-is, or-none, some-is}
use Rattle.link_laws.specs.Linked.{AreLatest, AreLinked, IsOwn, Under, carried_on}
use Rattle.link_laws.proofs.Sound.{stands-at, true-not-false}
use Rattle.link_laws.specs.UnderWay.{AreCarriedOf, AreEmpty, IsUnmade, any_kind, kind_messages, kind_of, living}
use Rattle.link_laws.proofs.UnderWay.Carried.{joined, messages-append}

not-false : (a : Bool) → not a ≡ false → a ≡ true
not-false true e = refl
not-false false e = absurd (true≢false e)

-- a link that is not dead was not cut, and stands at both sides
pub alive-is : (l : LinkId) (past : List Entry) → is_dead l past ≡ false → (is_cut l past ≡ false) × ((x : Side) → stands l (table_of x past) ≡ true)
alive-is l past e =
    let h = or-none (is_cut l past) _ e in
    let g = or-none (not (stands l (table_of A past))) (not (stands l (table_of B past))) h.1 in
    (h.0, by (not-false _ g.0) (not-false _ g.1))
  where
    by : stands l (table_of A past) ≡ true → stands l (table_of B past) ≡ true → (x : Side) → stands l (table_of x past) ≡ true
    by a b A = a
    by a b B = b

-- and so it is
pub is-alive : (l : LinkId) (past : List Entry) → is_cut l past ≡ false → ((x : Side) → stands l (table_of x past) ≡ true) → is_dead l past ≡ false
is-alive l past cut both = by (is_cut l past) (stands l (table_of A past)) (stands l (table_of B past)) cut (both A) (both B)
  where
    by : (c a b : Bool) → c ≡ false → a ≡ true → b ≡ true → (c || (not a || not b)) ≡ false
    by false true true p q r = refl
    by true a b p q r = absurd (true≢false p)
    by false false b p q r = absurd (true≢false (sym q))
    by false true false p q r = absurd (true≢false (sym r))

-- a link that stands was made
pub stands-made : (f : Fabric) (u : Option Under) (all : AreLinked f u) (x : Side) (l : LinkId) → stands l (peer x f).table ≡ true → l.incarnation ≤ made_on l.slot f
stands-made f u all x l s =
    let own : IsOwn x (peer x f) = all.own x in
    let old : AreLatest (peer x f) f.latest = all.latest x in
    let at = stands-at 1 l (peer x f).table own.rises s in
    by (old.known l.slot l at.1)
  where
    unwrapped : (o : Option LinkId) → o ≡ Some l → l.incarnation ≤ LinkId.incarnation (Rattle.std.specs.Prelude.unwrap_or o Rattle.smc_num.specs.Names.no_link)
    unwrapped o e = subst (λ o. l.incarnation ≤ LinkId.incarnation (Rattle.std.specs.Prelude.unwrap_or o Rattle.smc_num.specs.Names.no_link)) (sym e) (omega arith)

    by : link_at l.slot f.latest ≡ Some l → l.incarnation ≤ made_on l.slot f
    by e = unwrapped (link_at l.slot f.latest) e

-- what stands after a change of links stood before, or was not made yet; and no slot forgets how many links were made on it
pub record Grows (f g : Fabric) : Type 0 where
  pub comes : (x : Side) (l : LinkId) → stands l (peer x g).table ≡ true → (stands l (peer x f).table ≡ true) ⊎ IsUnmade l f
  pub rises : (k : ℕ) → made_on k f ≤ made_on k g

-- a link that is not dead after an entry was not dead before it, or was not made
pub comes-alive : (e : Entry) (past : List Entry) → Grows (fabric past) (fabric (e ∷ past)) → (l : LinkId) → is_dead l (e ∷ past) ≡ false → (is_dead l past ≡ false) ⊎ IsUnmade l (fabric past)
comes-alive e past grows l alive = by (grows.comes A l (both A)) (grows.comes B l (both B))
  where
    both : (x : Side) → stands l (table_of x (e ∷ past)) ≡ true
    both = let h = alive-is l (e ∷ past) alive in h.1

    cut : is_cut l past ≡ false
    cut = let h = alive-is l (e ∷ past) alive in let g = or-none (cuts l e.event e.reply past || comes_cut l e past) (is_cut l past) h.0 in g.1

    sides : stands l (table_of A past) ≡ true → stands l (table_of B past) ≡ true → (x : Side) → stands l (table_of x past) ≡ true
    sides a b A = a
    sides a b B = b

    by : (stands l (table_of A past) ≡ true) ⊎ IsUnmade l (fabric past) → (stands l (table_of B past) ≡ true) ⊎ IsUnmade l (fabric past) → (is_dead l past ≡ false) ⊎ IsUnmade l (fabric past)
    by (inl a) (inl b) = inl (is-alive l past cut (sides a b))
    by (inr a) b = inr a
    by (inl a) (inr b) = inr b

-- dead stays dead
pub stays-dead : (e : Entry) (past : List Entry) → Grows (fabric past) (fabric (e ∷ past)) → (l : LinkId) → l.incarnation ≤ made_on l.slot (fabric past) → is_dead l past ≡ true → is_dead l (e ∷ past) ≡ true
stays-dead e past grows l made dead = by (is_dead l (e ∷ past)) refl
  where
    by : (b : Bool) → is_dead l (e ∷ past) ≡ b → b ≡ true
    by true e = refl
    by false alive = elim (comes-alive e past grows l alive) [ inl h ↦ absurd (true-not-false (is_dead l past) dead h) | inr h ↦ absurd (omega (arith, h, made)) ]

-- what is forgotten makes no difference on links that are not dead
pub living-on : (past : List Entry) (l : LinkId) (x : Side) (u : Option Under) → is_dead l past ≡ false → carried_on l x (living past u) ≡ carried_on l x u
living-on past l x None alive = refl
living-on past l x (Some w) alive = by (is_dead w.link past) refl
  where
    other : is_dead w.link past ≡ true → (a b : Bool) → same_link l w.link ≡ b → [] ≡ (if a && b then w.message ∷ [] else [])
    other dead true true e = absurd (true-not-false (is_dead l past) (ap (λ l. is_dead l past) (link-is l w.link e) ∙ dead) alive)
    other dead true false e = refl
    other dead false b e = refl

    by : (b : Bool) → is_dead w.link past ≡ b → carried_on l x (if b then None else Some w) ≡ carried_on l x (Some w)
    by true dead = other dead (same_side x w.from) (same_link l w.link) refl
    by false e = refl

-- what is not forgotten is on a link that is not dead
pub living-alive : (past : List Entry) (u : Option Under) (w : Under) → living past u ≡ Some w → is_dead w.link past ≡ false
living-alive past None w e = absurd (none-is w e)
living-alive past (Some v) w e = by (is_dead v.link past) refl e
  where
    by : (b : Bool) → is_dead v.link past ≡ b → (if b then None else Some v) ≡ Some w → is_dead w.link past ≡ false
    by true d e = absurd (none-is w e)
    by false d e = ap (λ (u : Under). is_dead u.link past) (sym (some-is v w e)) ∙ d

-- what a wire without messages of a kind keeps
drop-none : (kind : Under → Bool) (n : ℕ) (cs : List Placed) → kind_messages kind cs ≡ [] → kind_messages kind (drop n cs) ≡ []
drop-none kind zero cs e = e
drop-none kind (suc n) [] e = e
drop-none kind (suc n) (c ∷ cs) e = drop-none kind n cs (by (option_map (λ (w : Under). w.message) (kind_of kind c.post)) e)
  where
    never : (m : LlcMessage) (ms : List LlcMessage) → m ∷ ms ≡ [] → ⊥
    never m ms e = cc

    by : (o : Option LlcMessage) → cons_option o (kind_messages kind cs) ≡ [] → kind_messages kind cs ≡ []
    by None e = e
    by (Some m) e = absurd (never m (kind_messages kind cs) e)

-- where there is no message there is none of a kind
pub none-of : (kind : Under → Bool) (cs : List Placed) → kind_messages any_kind cs ≡ [] → kind_messages kind cs ≡ []
none-of kind [] e = refl
none-of kind (c ∷ cs) e = by c.post (λ f. none-of kind cs f) e
  where
    never : (m : LlcMessage) (ms : List LlcMessage) → m ∷ ms ≡ [] → ⊥
    never m ms e = cc

    by : (post : Post) → (kind_messages any_kind cs ≡ [] → kind_messages kind cs ≡ []) → cons_option (option_map (λ (w : Under). w.message) (kind_of any_kind post)) (kind_messages any_kind cs) ≡ [] → cons_option (option_map (λ (w : Under). w.message) (kind_of kind post)) (kind_messages kind cs) ≡ []
    by (Llc from link m) ih e = absurd (never m (kind_messages any_kind cs) e)
    by (Write from link key address len) ih e = ih e
    by (Cdc from link m) ih e = ih e
    by (Clc from s link m) ih e = ih e

-- the posts of an entry carry something new only where nothing is left on a link that is not dead
abbrev pub IsFree : List Entry → Option Under → Option Under → Type 0
IsFree past left new = (new ≡ None) ⊎ ((w : Under) → left ≡ Some w → is_dead w.link past ≡ true)

module _ (kind : Under → Bool) (e : Entry) (past : List Entry) (grows : Grows (fabric past) (fabric (e ∷ past))) (empty : AreEmpty past) (made : (l : LinkId) → is_dead l past ≡ false → l.incarnation ≤ made_on l.slot (fabric past)) where
  -- the wires after an entry, where `left` is what has not landed and `new` what is posted
  pub wires-after : (left new : Option Under) → ((w : Under) → left ≡ Some w → is_dead w.link past ≡ false)
      → ((l : LinkId) (x : Side) → is_dead l past ≡ false → kind_messages kind (drop (if_latest l past (leaves x l.slot e.event e.reply)) (unlanded l x past)) ≡ carried_on l x left)
      → ((l : LinkId) (x : Side) → is_dead l (e ∷ past) ≡ false → kind_messages kind (filter (λ (c : Placed). is_on l x c.post) (numbered (next_number past) 1 e.posts)) ≡ carried_on l x new)
      → IsFree (e ∷ past) left new → AreCarriedOf kind (e ∷ past) (living (e ∷ past) (option_or new left))
  wires-after left new was stays posted free = record { alive = living-alive (e ∷ past) (option_or new left); carried = on }
    where
      -- what is left is on no link that is not made
      apart : (l : LinkId) (x : Side) → IsUnmade l (fabric past) → (u : Option Under) → left ≡ u → carried_on l x u ≡ []
      apart l x new None is = refl
      apart l x new (Some w) is = by (same_side x w.from) (same_link l w.link) refl
        where
          by : (a b : Bool) → same_link l w.link ≡ b → (if a && b then w.message ∷ [] else []) ≡ []
          by true true e =
              let m : w.link.incarnation ≤ made_on w.link.slot (fabric past) = made w.link (was w is) in
              let n : made_on w.link.slot (fabric past) < w.link.incarnation = subst (λ l. IsUnmade l (fabric past)) (link-is l w.link e) new in
              absurd (omega (arith, m, n))
          by true false e = refl
          by false b e = refl

      keeps : (l : LinkId) (x : Side) → is_dead l (e ∷ past) ≡ false → kind_messages kind (drop (if_latest l past (leaves x l.slot e.event e.reply)) (unlanded l x past)) ≡ carried_on l x left
      keeps l x alive = elim (comes-alive e past grows l alive) [
        | inl before ↦ stays l x before
        | inr new ↦ drop-none kind (if_latest l past (leaves x l.slot e.event e.reply)) (unlanded l x past) (none-of kind (unlanded l x past) (empty.empty l x new)) ∙ sym (apart l x new left refl)
      ]

      clear : (l : LinkId) (x : Side) → is_dead l (e ∷ past) ≡ false → (new ≡ None) ⊎ (carried_on l x left ≡ [])
      clear l x alive = elim free [ inl h ↦ inl h | inr h ↦ inr (at left refl h) ]
        where
          at : (u : Option Under) → left ≡ u → ((w : Under) → left ≡ Some w → is_dead w.link (e ∷ past) ≡ true) → carried_on l x u ≡ []
          at None is h = refl
          at (Some w) is h = by (same_side x w.from) (same_link l w.link) refl
            where
              by : (a b : Bool) → same_link l w.link ≡ b → (if a && b then w.message ∷ [] else []) ≡ []
              by true true p = absurd (true-not-false (is_dead l (e ∷ past)) (ap (λ l. is_dead l (e ∷ past)) (link-is l w.link p) ∙ h w is) alive)
              by true false p = refl
              by false b p = refl

      on : (l : LinkId) (x : Side) → is_dead l (e ∷ past) ≡ false → kind_messages kind (unlanded l x (e ∷ past)) ≡ carried_on l x (living (e ∷ past) (option_or new left))
      on l x alive =
          messages-append kind (drop (if_latest l past (leaves x l.slot e.event e.reply)) (unlanded l x past)) (filter (λ (c : Placed). is_on l x c.post) (numbered (next_number past) 1 e.posts))
          ∙ (ap (λ ms. ms ++ kind_messages kind (filter (λ (c : Placed). is_on l x c.post) (numbered (next_number past) 1 e.posts))) (keeps l x alive)
          ∙ (ap (λ ms. carried_on l x left ++ ms) (posted l x alive)
          ∙ (joined kind l x left new (clear l x alive) ∙ sym (living-on (e ∷ past) l x (option_or new left) alive))))
