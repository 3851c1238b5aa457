-- What the wires carry of one kind of message, after one more entry.
use Rattle.std.proofs.Common.{Bool, List, None, Some, [], ap, false, filter, if◌then◌else◌, inl, inr, refl, sym, true, true≢false, ℕ, ◌&&◌, ◌++◌, ◌+◌, ◌∙◌, ◌∷◌, ◌≡◌, ◌⊎◌}
use Rattle.std.specs.Prelude.{Option, option_map}
use Rattle.std.specs.List.{cons_option}
use Rattle.pipe_model.specs.declared.post.Post.TheVariants.{Clc, Write}
use Rattle.std.specs.Option.{option_or}
use Rattle.history_laws.specs.Words.{A, B, Cdc, LinkId, Llc, LlcMessage, Placed, Post, Side, is_on, numbered, same_link, same_side}
use Rattle.history_laws.proofs.Basics.{link-is, none-is, some-is}
use Rattle.link_laws.specs.Linked.{Under, carried_on}
use Rattle.link_laws.specs.UnderWay.{HasOneOf, kind_in, kind_messages, kind_of}

module _ (kind : Under → Bool) where
  pub messages-append : (cs ds : List Placed) → kind_messages kind (cs ++ ds) ≡ kind_messages kind cs ++ kind_messages kind ds
  messages-append [] ds = refl
  messages-append (c ∷ cs) ds = by (option_map (λ (w : Under). w.message) (kind_of kind c.post)) (messages-append cs ds)
    where
      by : (o : Option LlcMessage) → kind_messages kind (cs ++ ds) ≡ kind_messages kind cs ++ kind_messages kind ds → cons_option o (kind_messages kind (cs ++ ds)) ≡ cons_option o (kind_messages kind cs) ++ kind_messages kind ds
      by None e = e
      by (Some m) e = ap (λ ms. m ∷ ms) e

  -- a post of the kind is on the wire of its message
  on-under : (l : LinkId) (x : Side) (post : Post) (w : Under) → kind_of kind post ≡ Some w → is_on l x post ≡ (same_side x w.from && same_link l w.link)
  on-under l x (Write from link key address len) w e = absurd (none-is w e)
  on-under l x (Cdc from link m) w e = absurd (none-is w e)
  on-under l x (Clc from s link m) w e = absurd (none-is w e)
  on-under l x (Llc from link m) w e = by (kind (record { from = from; link = link; message = m })) e
    where
      by : (b : Bool) → (if b then Some (record { from = from; link = link; message = m }) else None) ≡ Some w → (same_side x from && same_link l link) ≡ (same_side x w.from && same_link l w.link)
      by true e = ap (λ (v : Under). same_side x v.from && same_link l v.link) (some-is (record { from = from; link = link; message = m }) w e)
      by false e = absurd (none-is w e)

  -- the posts of an entry on a wire
  pub posted-on : (l : LinkId) (x : Side) (n i : ℕ) (posts : List Post) → HasOneOf kind posts → kind_messages kind (filter (λ (c : Placed). is_on l x c.post) (numbered n i posts)) ≡ carried_on l x (kind_in kind posts)
  posted-on l x n i [] one = refl
  posted-on l x n i (post ∷ posts) one = by (kind_of kind post) refl one.0 (posted-on l x n (i + 1) posts one.1)
    where
      by : (o : Option Under) → kind_of kind post ≡ o → ((o ≡ None) ⊎ (kind_in kind posts ≡ None)) → kind_messages kind (filter (λ (c : Placed). is_on l x c.post) (numbered n (i + 1) posts)) ≡ carried_on l x (kind_in kind posts)
          → kind_messages kind (filter (λ (c : Placed). is_on l x c.post) (numbered n i (post ∷ posts))) ≡ carried_on l x (option_or o (kind_in kind posts))
      by None e one ih = step (is_on l x post)
        where
          step : (b : Bool) → kind_messages kind (if b then record { at = record { entry = n; post = i }; post = post } ∷ filter (λ (c : Placed). is_on l x c.post) (numbered n (i + 1) posts) else filter (λ (c : Placed). is_on l x c.post) (numbered n (i + 1) posts)) ≡ carried_on l x (kind_in kind posts)
          step true = ap (λ o. cons_option (option_map (λ (w : Under). w.message) o) (kind_messages kind (filter (λ (c : Placed). is_on l x c.post) (numbered n (i + 1) posts)))) e ∙ ih
          step false = ih
      by (Some w) e (inl none) ih = absurd (none-is w (sym none))
      by (Some w) e (inr none) ih = step (is_on l x post) ∙ ap (λ b. if b then w.message ∷ [] else []) (on-under l x post w e)
        where
          empty : kind_messages kind (filter (λ (c : Placed). is_on l x c.post) (numbered n (i + 1) posts)) ≡ []
          empty = ih ∙ ap (λ u. carried_on l x u) none

          step : (b : Bool) → kind_messages kind (if b then record { at = record { entry = n; post = i }; post = post } ∷ filter (λ (c : Placed). is_on l x c.post) (numbered n (i + 1) posts) else filter (λ (c : Placed). is_on l x c.post) (numbered n (i + 1) posts)) ≡ (if b then w.message ∷ [] else [])
          step true = ap (λ o. cons_option (option_map (λ (w : Under). w.message) o) (kind_messages kind (filter (λ (c : Placed). is_on l x c.post) (numbered n (i + 1) posts)))) e ∙ ap (λ ms. w.message ∷ ms) empty
          step false = empty

  -- what lands of the kind is what was under way, and nothing else is
  pub landed-is : (l : LinkId) (x : Side) (u : Option Under) (c : Placed) (cs : List Placed) (v : Under) → kind_of kind c.post ≡ Some v → v.from ≡ x → v.link ≡ l → kind_messages kind (c ∷ cs) ≡ carried_on l x u → (u ≡ Some v) × (kind_messages kind cs ≡ [])
  landed-is l x u c cs v is from link e = by u (sym (ap (λ o. cons_option (option_map (λ (w : Under). w.message) o) (kind_messages kind cs)) is) ∙ e)
    where
      none-cons : {X : Type 0} (a : X) (ms : List X) → a ∷ ms ≡ [] → ⊥
      none-cons a ms e = cc

      by : (u : Option Under) → v.message ∷ kind_messages kind cs ≡ carried_on l x u → (u ≡ Some v) × (kind_messages kind cs ≡ [])
      by None e = absurd (none-cons v.message (kind_messages kind cs) e)
      by (Some w) e = at (same_side x w.from) (same_link l w.link) refl refl e
        where
          at : (b d : Bool) → same_side x w.from ≡ b → same_link l w.link ≡ d → v.message ∷ kind_messages kind cs ≡ (if b && d then w.message ∷ [] else []) → (Some w ≡ Some v) × (kind_messages kind cs ≡ [])
          at true true p q e = (ap Some (whole w v (sym (same-is x w.from p) ∙ sym from) (sym (link-is l w.link q) ∙ sym link) (heads w.message v.message [] (kind_messages kind cs) (sym e))), sym (tails w.message v.message [] (kind_messages kind cs) (sym e)))
            where
              same-is : (x y : Side) → same_side x y ≡ true → x ≡ y
              same-is A A e = refl
              same-is B B e = refl
              same-is A B e = absurd (true≢false (sym e))
              same-is B A e = absurd (true≢false (sym e))

              heads : {X : Type 0} (a b : X) (ms bs : List X) → a ∷ ms ≡ b ∷ bs → a ≡ b
              heads a b ms bs e = cc

              tails : {X : Type 0} (a b : X) (ms bs : List X) → a ∷ ms ≡ b ∷ bs → ms ≡ bs
              tails a b ms bs e = cc

              whole : (w v : Under) → w.from ≡ v.from → w.link ≡ v.link → w.message ≡ v.message → w ≡ v
              whole w v e f g = rw e (rw f (rw g refl))
          at true false p q e = absurd (none-cons v.message (kind_messages kind cs) e)
          at false d p q e = absurd (none-cons v.message (kind_messages kind cs) e)

  -- what is no message of the kind leaves the wire without one less
  pub landed-other : (c : Placed) (cs : List Placed) → kind_of kind c.post ≡ None → kind_messages kind (c ∷ cs) ≡ kind_messages kind cs
  landed-other c cs e = ap (λ o. cons_option (option_map (λ (w : Under). w.message) o) (kind_messages kind cs)) e

  -- a wire with what is left and what comes
  pub joined : (l : LinkId) (x : Side) (left new : Option Under) → (new ≡ None) ⊎ (carried_on l x left ≡ []) → carried_on l x left ++ carried_on l x new ≡ carried_on l x (option_or new left)
  joined l x left None e = append-none (carried_on l x left)
    where
      append-none : (ms : List LlcMessage) → ms ++ [] ≡ ms
      append-none [] = refl
      append-none (m ∷ ms) = ap (λ ns. m ∷ ns) (append-none ms)
  joined l x left (Some w) (inl none) = absurd (none-is w (sym none))
  joined l x left (Some w) (inr none) = ap (λ ms. ms ++ carried_on l x (Some w)) none

  -- the wire after an entry: what stays of it, then the posts
  pub carried-after : (l : LinkId) (x : Side) (left new : Option Under) (stay : List Placed) (n i : ℕ) (posts : List Post) → HasOneOf kind posts → kind_in kind posts ≡ new → kind_messages kind stay ≡ carried_on l x left → (new ≡ None) ⊎ (carried_on l x left ≡ [])
      → kind_messages kind (stay ++ filter (λ (c : Placed). is_on l x c.post) (numbered n i posts)) ≡ carried_on l x (option_or new left)
  carried-after l x left new stay n i posts one is stays either =
      messages-append stay (filter (λ (c : Placed). is_on l x c.post) (numbered n i posts))
      ∙ (ap (λ ms. ms ++ kind_messages kind (filter (λ (c : Placed). is_on l x c.post) (numbered n i posts))) stays
      ∙ (ap (λ ms. carried_on l x left ++ ms) (posted-on l x n i posts one ∙ ap (λ u. carried_on l x u) is) ∙ joined l x left new either))
