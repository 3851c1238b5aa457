-- On a wire that is not dead, what is posted of a kind is what is posted of it on links that are not dead: posts on dead links don't count.
use Rattle.std.proofs.Common.{Bool, List, None, Some, [], ap, false, filter, if◌then◌else◌, not, refl, sym, true, ℕ, ◌&&◌, ◌+◌, ◌∙◌, ◌∷◌, ◌≡◌}
use Rattle.pipe_model.specs.declared.post.Post.TheVariants.{Clc, Write}
use Rattle.std.specs.List.{cons_option}
use Rattle.std.specs.Prelude.{option_map}
use Rattle.history_laws.specs.Words.{Cdc, Entry, LinkId, Llc, Placed, Post, Side, is_dead, is_on, numbered}
use Rattle.link_laws.specs.Linked.{Under, carried_on}
use Rattle.link_laws.specs.UnderWay.{HasOneOf, kind_in, kind_messages, kind_of, still}
use Rattle.link_laws.proofs.UnderWay.Places.{own-message}
use Rattle.link_laws.proofs.UnderWay.Carried.{posted-on}

module _ (kind : Under → Bool) (past : List Entry) (l : LinkId) (x : Side) (alive : is_dead l past ≡ false) where
  -- a post on that wire
  one-still : (post : Post) → is_on l x post ≡ true → kind_of kind post ≡ kind_of (still kind past) post
  one-still (Write from link key address len) on = refl
  one-still (Cdc from link m) on = refl
  one-still (Clc from s link m) on = refl
  one-still (Llc from link m) on =
      let own = own-message l x from link m on in
      ap (λ b. if b then Some (record { from = from; link = link; message = m }) else None) (sym (ap (λ b. kind (record { from = from; link = link; message = m }) && not b) (ap (λ k. is_dead k past) own.1 ∙ alive) ∙ and-true (kind (record { from = from; link = link; message = m }))))
    where
      and-true : (b : Bool) → (b && true) ≡ b
      and-true true = refl
      and-true false = refl

  same-still : (n i : ℕ) (posts : List Post) → kind_messages kind (filter (λ (c : Placed). is_on l x c.post) (numbered n i posts)) ≡ kind_messages (still kind past) (filter (λ (c : Placed). is_on l x c.post) (numbered n i posts))
  same-still n i [] = refl
  same-still n i (post ∷ posts) = by (is_on l x post) refl (same-still n (i + 1) posts)
    where
      by : (b : Bool) → is_on l x post ≡ b → kind_messages kind (filter (λ (c : Placed). is_on l x c.post) (numbered n (i + 1) posts)) ≡ kind_messages (still kind past) (filter (λ (c : Placed). is_on l x c.post) (numbered n (i + 1) posts))
          → kind_messages kind (if b then record { at = record { entry = n; post = i }; post = post } ∷ filter (λ (c : Placed). is_on l x c.post) (numbered n (i + 1) posts) else filter (λ (c : Placed). is_on l x c.post) (numbered n (i + 1) posts))
          ≡ kind_messages (still kind past) (if b then record { at = record { entry = n; post = i }; post = post } ∷ filter (λ (c : Placed). is_on l x c.post) (numbered n (i + 1) posts) else filter (λ (c : Placed). is_on l x c.post) (numbered n (i + 1) posts))
      by true on ih = ap (λ o. cons_option (option_map (λ (w : Under). w.message) o) (kind_messages kind (filter (λ (c : Placed). is_on l x c.post) (numbered n (i + 1) posts)))) (one-still post on)
          ∙ ap (λ ms. cons_option (option_map (λ (w : Under). w.message) (kind_of (still kind past) post)) ms) ih
      by false on ih = ih

  -- so at most one post on links that are not dead is enough
  pub posted-still : (n i : ℕ) (posts : List Post) → HasOneOf (still kind past) posts → kind_messages kind (filter (λ (c : Placed). is_on l x c.post) (numbered n i posts)) ≡ carried_on l x (kind_in (still kind past) posts)
  posted-still n i posts one = same-still n i posts ∙ posted-on (still kind past) l x n i posts one
