-- What an entry has to give for links, flows and wires to go on, and that it is enough.
use Rattle.std.proofs.Common.{Bool, List, None, Some, [], ap, arith, drop, false, filter, if◌then◌else◌, refl, subst, suc, true, zero, ℕ, ◌++◌, ◌+◌, ◌<◌, ◌∙◌, ◌∷◌, ◌≡◌, ◌≤◌}
use Rattle.std.specs.Prelude.{Option, option_map}
use Rattle.std.specs.Option.{option_or}
use Rattle.pipe_model.specs.declared.post.Post.TheVariants.{Clc, Write}
use Rattle.std.specs.List.{cons_option}
use Rattle.history_laws.specs.Words.{A, Cdc, Entry, Fabric, LinkId, Llc, LlcMessage, Placed, Post, Side, fabric, if_latest, is_dead, is_on, leaves, made_on, next_number, numbered, unlanded}
use Rattle.link_laws.specs.Linked.{AreLinked, Under, carried_on}
use Rattle.link_laws.proofs.UnderWay.WireStep.{Grows, IsFree, alive-is, stands-made, wires-after}
use Rattle.link_laws.specs.UnderWay.{AreCarriedOf, AreEmpty, AreOnMade, HasFlows, HasOneOf, IsUnmade, any_kind, kind_in, kind_messages, kind_of, link_kind, living}
use Rattle.link_laws.proofs.UnderWay.Places.{own-message}
use Rattle.link_laws.proofs.UnderWay.Carried.{messages-append, posted-on}
use Rattle.link_laws.proofs.Sound.{forgotten}

-- what an entry does to links and flows, to the messages of the link flow, and on which links it posts
pub record GoesOn (e : Entry) (past : List Entry) (under : Option Under) : Type 0 where
  pub left : Option Under
  pub new : Option Under
  pub grows : Grows (fabric past) (fabric (e ∷ past))
  pub linked : AreLinked (fabric (e ∷ past)) (option_or new left)
  pub kept : (w : Under) → left ≡ Some w → under ≡ Some w
  pub stays : (l : LinkId) (x : Side) → is_dead l past ≡ false → kind_messages link_kind (drop (if_latest l past (leaves x l.slot e.event e.reply)) (unlanded l x past)) ≡ carried_on l x left
  pub one : HasOneOf link_kind e.posts
  pub posted : kind_in link_kind e.posts ≡ new
  pub free : IsFree (e ∷ past) left new
  pub made : AreOnMade (fabric (e ∷ past)) e.posts

-- no message of these is on a link that is not made
none-posted : (f : Fabric) (l : LinkId) (x : Side) (n i : ℕ) (posts : List Post) → IsUnmade l f → AreOnMade f posts → kind_messages any_kind (filter (λ (c : Placed). is_on l x c.post) (numbered n i posts)) ≡ []
none-posted f l x n i [] un made = refl
none-posted f l x n i (Llc from link m ∷ posts) un made = by (is_on l x (Llc from link m)) refl (none-posted f l x n (i + 1) posts un made.1)
  where
    by : (b : Bool) → is_on l x (Llc from link m) ≡ b → kind_messages any_kind (filter (λ (c : Placed). is_on l x c.post) (numbered n (i + 1) posts)) ≡ []
        → kind_messages any_kind (if b then record { at = record { entry = n; post = i }; post = Llc from link m } ∷ filter (λ (c : Placed). is_on l x c.post) (numbered n (i + 1) posts) else filter (λ (c : Placed). is_on l x c.post) (numbered n (i + 1) posts)) ≡ []
    by true e ih =
        let own = own-message l x from link m e in
        let p : l.incarnation ≤ made_on l.slot f = subst (λ (k : LinkId). k.incarnation ≤ made_on k.slot f) own.1 made.0 in
        absurd (omega (arith, p, un))
    by false e ih = ih
none-posted f l x n i (Write from link key address len ∷ posts) un made = by (is_on l x (Write from link key address len)) (none-posted f l x n (i + 1) posts un made)
  where
    by : (b : Bool) → kind_messages any_kind (filter (λ (c : Placed). is_on l x c.post) (numbered n (i + 1) posts)) ≡ []
        → kind_messages any_kind (if b then record { at = record { entry = n; post = i }; post = Write from link key address len } ∷ filter (λ (c : Placed). is_on l x c.post) (numbered n (i + 1) posts) else filter (λ (c : Placed). is_on l x c.post) (numbered n (i + 1) posts)) ≡ []
    by true ih = ih
    by false ih = ih
none-posted f l x n i (Cdc from link m ∷ posts) un made = by (is_on l x (Cdc from link m)) (none-posted f l x n (i + 1) posts un made)
  where
    by : (b : Bool) → kind_messages any_kind (filter (λ (c : Placed). is_on l x c.post) (numbered n (i + 1) posts)) ≡ []
        → kind_messages any_kind (if b then record { at = record { entry = n; post = i }; post = Cdc from link m } ∷ filter (λ (c : Placed). is_on l x c.post) (numbered n (i + 1) posts) else filter (λ (c : Placed). is_on l x c.post) (numbered n (i + 1) posts)) ≡ []
    by true ih = ih
    by false ih = ih
none-posted f l x n i (Clc from s link m ∷ posts) un made = by (is_on l x (Clc from s link m)) (none-posted f l x n (i + 1) posts un made)
  where
    by : (b : Bool) → kind_messages any_kind (filter (λ (c : Placed). is_on l x c.post) (numbered n (i + 1) posts)) ≡ []
        → kind_messages any_kind (if b then record { at = record { entry = n; post = i }; post = Clc from s link m } ∷ filter (λ (c : Placed). is_on l x c.post) (numbered n (i + 1) posts) else filter (λ (c : Placed). is_on l x c.post) (numbered n (i + 1) posts)) ≡ []
    by true ih = ih
    by false ih = ih

drop-any : (n : ℕ) (cs : List Placed) → kind_messages any_kind cs ≡ [] → kind_messages any_kind (drop n cs) ≡ []
drop-any zero cs e = e
drop-any (suc n) [] e = e
drop-any (suc n) (c ∷ cs) e = drop-any n cs (by (option_map (λ (w : Under). w.message) (kind_of any_kind c.post)) e)
  where
    never : (m : LlcMessage) (ms : List LlcMessage) → m ∷ ms ≡ [] → ⊥
    never m ms e = cc

    by : (o : Option LlcMessage) → cons_option o (kind_messages any_kind cs) ≡ [] → kind_messages any_kind cs ≡ []
    by None e = e
    by (Some m) e = absurd (never m (kind_messages any_kind cs) e)

-- a link that is not made has no message on its wires, whatever an entry posts
pub empty-after : (e : Entry) (past : List Entry) → Grows (fabric past) (fabric (e ∷ past)) → AreOnMade (fabric (e ∷ past)) e.posts → AreEmpty past → AreEmpty (e ∷ past)
empty-after e past grows made empty = record { empty = on }
  where
    on : (l : LinkId) (x : Side) → IsUnmade l (fabric (e ∷ past)) → kind_messages any_kind (unlanded l x (e ∷ past)) ≡ []
    on l x un =
        let p : made_on l.slot (fabric past) ≤ made_on l.slot (fabric (e ∷ past)) = grows.rises l.slot in
        let q : made_on l.slot (fabric (e ∷ past)) < l.incarnation = un in
        let before : IsUnmade l (fabric past) = omega (arith, p, q) in
        messages-append any_kind (drop (if_latest l past (leaves x l.slot e.event e.reply)) (unlanded l x past)) (filter (λ (c : Placed). is_on l x c.post) (numbered (next_number past) 1 e.posts))
        ∙ (ap (λ ms. ms ++ kind_messages any_kind (filter (λ (c : Placed). is_on l x c.post) (numbered (next_number past) 1 e.posts))) (drop-any (if_latest l past (leaves x l.slot e.event e.reply)) (unlanded l x past) (empty.empty l x before))
        ∙ none-posted (fabric (e ∷ past)) l x (next_number past) 1 e.posts un made)

-- what is dead is forgotten
pub living-linked : (f : Fabric) (past : List Entry) (u : Option Under) → AreLinked f u → AreLinked f (living past u)
living-linked f past None all = all
living-linked f past (Some w) all = by (is_dead w.link past)
  where
    by : (b : Bool) → AreLinked f (if b then None else Some w)
    by true = forgotten f (Some w) all
    by false = all

-- a link that is not dead was made
pub made-links : (past : List Entry) (u : Option Under) → AreLinked (fabric past) u → (l : LinkId) → is_dead l past ≡ false → l.incarnation ≤ made_on l.slot (fabric past)
made-links past u all l alive = let h = alive-is l past alive in stands-made (fabric past) u all A l (h.1 A)

-- links, flows and wires after such an entry
abbrev pub goes-on : (e : Entry) (past : List Entry) → (all : HasFlows past) → GoesOn e past all.under → HasFlows (e ∷ past)
goes-on e past all g = let c : AreCarriedOf link_kind past all.under = all.carried in record {
  under = living (e ∷ past) (option_or g.new g.left);
  linked = living-linked (fabric (e ∷ past)) (e ∷ past) (option_or g.new g.left) g.linked;
  carried = wires-after link_kind e past g.grows all.empty (made-links past all.under all.linked) g.left g.new (λ w e. c.alive w (g.kept w e)) g.stays
      (λ l x alive. posted-on link_kind l x (next_number past) 1 e.posts g.one ∙ ap (λ u. carried_on l x u) g.posted) g.free;
  empty = empty-after e past g.grows g.made all.empty;
}
