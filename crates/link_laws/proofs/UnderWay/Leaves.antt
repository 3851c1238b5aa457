-- A landing takes from the wires what was under way of a kind, where it is that, and leaves all else.
use Rattle.std.specs.Prelude.{Option}
use Rattle.std.proofs.Common.{Bool, List, None, Some, [], ap, drop, eq-eqb, eqb-true, false, if◌then◌else◌, refl, subst, sym, true, true≢false, ◌&&◌, ◌==◌, ◌∙◌, ◌∷◌, ◌≡◌}
use Rattle.history_laws.specs.Words.{Entry, LinkId, Placed, Side, if_latest, is_dead, is_latest, latest, passes, same_link, same_side, unlanded}
use Rattle.history_laws.proofs.Basics.{link-is, same-is, same-self}
use Rattle.link_laws.specs.Linked.{Under, carried_on}
use Rattle.link_laws.specs.UnderWay.{AreCarriedOf, kind_messages, kind_of}
use Rattle.link_laws.proofs.UnderWay.Carried.{landed-is, landed-other}
use Rattle.link_laws.proofs.Sound.{link-self}

-- what is left of what was under way, where this post has landed
abbrev pub left_after : Option Under → Option Under → Option Under
left_after None under = under
left_after (Some w) under = None

module _ (kind : Under → Bool) (past : List Entry) (u : Option Under) (all : AreCarriedOf kind past u) (l0 : LinkId) (dir : Side) (c : Placed) (cs : List Placed) (last : latest l0.slot past ≡ Some l0) (alive : is_dead l0 past ≡ false) (front : unlanded l0 dir past ≡ c ∷ cs)
    (own : (v : Under) → kind_of kind c.post ≡ Some v → (v.from ≡ dir) × (v.link ≡ l0)) where
  -- the wire on which it lands
  here : kind_messages kind cs ≡ carried_on l0 dir (left_after (kind_of kind c.post) u)
  here = by (kind_of kind c.post) refl
    where
      before : kind_messages kind (c ∷ cs) ≡ carried_on l0 dir u
      before = ap (kind_messages kind) (sym front) ∙ all.carried l0 dir alive

      by : (o : Option Under) → kind_of kind c.post ≡ o → kind_messages kind cs ≡ carried_on l0 dir (left_after o u)
      by None e = sym (landed-other kind c cs e) ∙ before
      by (Some v) e = let w = own v e in let h = landed-is kind l0 dir u c cs v e w.0 w.1 before in h.1

  -- any other
  beside : (l : LinkId) (x : Side) → is_dead l past ≡ false → (same_side x dir && same_link l l0) ≡ false → kind_messages kind (unlanded l x past) ≡ carried_on l x (left_after (kind_of kind c.post) u)
  beside l x live other = by (kind_of kind c.post) refl
    where
      by : (o : Option Under) → kind_of kind c.post ≡ o → kind_messages kind (unlanded l x past) ≡ carried_on l x (left_after o u)
      by None e = all.carried l x live
      by (Some v) e =
          let w = own v e in
          let h = landed-is kind l0 dir u c cs v e w.0 w.1 (ap (kind_messages kind) (sym front) ∙ all.carried l0 dir alive) in
          all.carried l x live ∙ (ap (λ o. carried_on l x o) h.0 ∙ (ap (λ y. if same_side x y && same_link l v.link then v.message ∷ [] else []) w.0 ∙ (ap (λ m. if same_side x dir && same_link l m then v.message ∷ [] else []) w.1 ∙ ap (λ b. if b then v.message ∷ [] else []) other)))

  pub leaves-carried : (l : LinkId) (x : Side) → is_dead l past ≡ false → kind_messages kind (drop (if_latest l past ((if same_side x dir && (l.slot == l0.slot) then 1 else 0))) (unlanded l x past)) ≡ carried_on l x (left_after (kind_of kind c.post) u)
  leaves-carried l x live = by (same_side x dir) (same_link l l0) refl refl
    where
      away : (b d : Bool) → (b && d) ≡ false → drop (if b then (if d then 1 else 0) else 0) (unlanded l x past) ≡ unlanded l x past
      away true true e = absurd (true≢false e)
      away true false e = refl
      away false d e = refl

      -- a link of the slot that is not this one is not the latest
      not-both : same_link l l0 ≡ false → (b : Bool) → (l.slot == l0.slot) ≡ b → (is_latest l past && b) ≡ false
      not-both ne true e = ap (λ o. passes (same_link l) o && true) (ap (λ k. latest k past) (eqb-true l.slot l0.slot e) ∙ last) ∙ ap (λ b. b && true) ne
      not-both ne false e = and-false (is_latest l past)
        where
          and-false : (b : Bool) → (b && false) ≡ false
          and-false true = refl
          and-false false = refl

      by : (b d : Bool) → same_side x dir ≡ b → same_link l l0 ≡ d → kind_messages kind (drop (if_latest l past ((if same_side x dir && (l.slot == l0.slot) then 1 else 0))) (unlanded l x past)) ≡ carried_on l x (left_after (kind_of kind c.post) u)
      by true true e f = subst (λ y. kind_messages kind (drop (if_latest l past ((if same_side y dir && (l.slot == l0.slot) then 1 else 0))) (unlanded l y past)) ≡ carried_on l y (left_after (kind_of kind c.post) u)) (sym (same-is x dir e))
          (subst (λ m. kind_messages kind (drop (if_latest m past ((if same_side dir dir && (m.slot == l0.slot) then 1 else 0))) (unlanded m dir past)) ≡ carried_on m dir (left_after (kind_of kind c.post) u)) (sym (link-is l l0 f))
          (ap (λ n. kind_messages kind (drop n (unlanded l0 dir past))) one ∙ (ap (λ (ds : List Placed). kind_messages kind (drop 1 ds)) front ∙ here)))
        where
          one : if_latest l0 past ((if same_side dir dir && (l0.slot == l0.slot) then 1 else 0)) ≡ 1
          one = ap (λ o. if passes (same_link l0) o then (if same_side dir dir && (l0.slot == l0.slot) then 1 else 0) else 0) last ∙ (ap (λ b. if b then (if same_side dir dir && (l0.slot == l0.slot) then 1 else 0) else 0) (link-self l0)
              ∙ (ap (λ b. if b && (l0.slot == l0.slot) then 1 else 0) (same-self dir) ∙ ap (λ b. if b then 1 else 0) (eq-eqb l0.slot l0.slot refl)))
      by true false e f = ap (kind_messages kind) (ap (λ b. drop (if is_latest l past then (if b && (l.slot == l0.slot) then 1 else 0) else 0) (unlanded l x past)) e ∙ away (is_latest l past) (l.slot == l0.slot) (not-both f (l.slot == l0.slot) refl)) ∙ beside l x live (ap (λ b. b && same_link l l0) e ∙ f)
      by false d e f = ap (kind_messages kind) (ap (λ b. drop (if is_latest l past then (if b && (l.slot == l0.slot) then 1 else 0) else 0) (unlanded l x past)) e ∙ never (is_latest l past)) ∙ beside l x live (ap (λ b. b && same_link l l0) e)
        where
          never : (b : Bool) → drop (if b then 0 else 0) (unlanded l x past) ≡ unlanded l x past
          never true = refl
          never false = refl
