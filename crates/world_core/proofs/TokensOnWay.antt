-- A wire carries no bytes under a token that was not offered, so that a new offer finds none; and what then holds after every played history.
use Rattle.std.proofs.Common.{◌≡◌, ◌∙◌, ◌==◌, ◌⊎◌, inl, inr, ℕ, ◌+◌, Bool, true, false, List, [], ◌∷◌, ◌++◌, drop, filter, refl, ap, sym, subst, true≢false, arith}
use Rattle.std.specs.Prelude.{Option, Some, None, is_some}
use Rattle.smc_num.specs.declared.Side.{Side}
use Rattle.smc_num.specs.declared.Side.TheVariants.{A, B}
use Rattle.smc_num.specs.Names.{other, same_side, head}
use Rattle.smc_num.specs.Places.{Place}
use Rattle.rmb_region.proofs.Bytes.{a_new_buffer_is_whole}
use Rattle.pipe_model.specs.declared.setup.Setup.{Setup}
use Rattle.pipe_model.specs.declared.post.Post.{Post}
use Rattle.pipe_model.specs.declared.post.Post.TheVariants.{Write, Cdc, Llc, Clc}
use Rattle.pipe_model.specs.declared.entry.Entry.{Entry}
use Rattle.pipe_model.specs.Words.{element_size, elements_of}
use Rattle.pipe_model.specs.History.{Offered, offered}
use Rattle.pipe_model.specs.Wires.{is_on}
use Rattle.pipe_model.specs.Ends.{Half}
use Rattle.pipe_model.specs.Pipe.{half}
use Rattle.pipe_model.specs.Connections.{part, group_on}
use Rattle.world_core.proofs.Own.{grouped}
use Rattle.pipe_model.specs.Lending.{pipe_of, terms_of}
use Rattle.pipe_model.specs.Lawful.{draft}
use Rattle.pipe_model.specs.Posts.{offered_place}
use Rattle.world_core.specs.Played.{IsOneLink, IsPlayed}
use Rattle.world_core.specs.OneLink.{the_link}
use Rattle.world_core.specs.WireSteps.{leaving, Way}
use Rattle.world_core.specs.Agreement.{PostsOne, IsElse, GoesOn}
use Rattle.world_core.specs.Landed.{waiting_posts, peer_buffer, buffer_of, Stand, GoOn, Follows, Carries, Reaches, IsRmb}
use Rattle.world_core.proofs.Handshaken.{shaken, has-offers, gives-items}
use Rattle.world_core.proofs.Agreement.{agrees, else-before, new-token, new-end, nothing-left}
use Rattle.world_core.proofs.Batched.{Posts, new-unlanded}
use Rattle.world_core.proofs.Carrying.{drop-none}
use Rattle.world_core.proofs.Follows.{follows}
use Rattle.world_core.proofs.OnWay.{carries-append, tells-next}
use Rattle.world_core.proofs.News.{strange-news, IsElses, some-bytes}
use Rattle.world_core.proofs.Parts.{part-open}
use Rattle.world_core.proofs.Standing.{AllReach}
use Rattle.world_core.proofs.Landed.{rmb-on, reach-on}
use Rattle.world_core.proofs.Plain.{some-is}

-- of posts that carry nothing the first leaves
first-leaves : (size : ℕ) (x : Side) (place : Place) (token : ℕ) (post : Post) (posts : List Post) → Carries size x place token 0 (post ∷ posts) [] 0 → Carries size x place token 0 posts [] 0
first-leaves size x place token (Llc from link m) posts c = c
first-leaves size x place token (Clc from s link m) posts c = c
first-leaves size x place token (Cdc from link m) posts (e, inl c) = let q = c.1 in absurd (true≢false (sym (ap (λ ks. is_some (head ks)) q.2)))
first-leaves size x place token (Cdc from link m) posts (e, inr c) = c.1
first-leaves size x place token (Write from link key address len) posts (m, e, inr c) = c.1
first-leaves size x place token (Write from link key address len) posts (m, e, inl c) =
    let t = tells-next size x place token (0 + len) 0 posts [] m e c.0 c.3 in absurd (true≢false (sym (ap (λ ks. is_some (head ks)) t.is)))

module _ (setup : Setup) (one : IsOneLink setup) (payload : List ℕ) (x : Side) where
  abbrev Size : ℕ
  Size = element_size setup

  abbrev IsStrange : ℕ → List Entry → Type 0
  IsStrange token past = (s : ℕ) → IsElse token (offered (other x) s past)

  abbrev AllStrange : List Entry → Type 0
  AllStrange past = (token : ℕ) (place : Place) → IsStrange token past → Carries Size x place token 0 (waiting_posts x past) [] 0

  module _ (e : Entry) (past : List Entry) (n : ℕ) (p : IsPlayed setup payload (e ∷ past) n) (strange : AllStrange past) where
    abbrev All : List Post
    All = filter (is_on the_link x) e.posts

    go : GoesOn e past
    go = let g = gives-items setup one payload e past n p in g.goes_on

    posts-by : (k : ℕ) (rest : List Post) → leaving the_link x e past ≡ k → drop k (waiting_posts x past) ≡ rest → waiting_posts x (e ∷ past) ≡ rest ++ All
    posts-by k rest l d = new-unlanded the_link x e past ∙ ap (λ j. drop j (waiting_posts x past) ++ All) l ∙ ap (λ r. r ++ All) d

    module _ (token : ℕ) (place : Place) (is : IsStrange token past) where
      elses : (q : PostsOne setup payload (draft setup payload past p.0 e.event) past) → IsElses setup one payload e past n p x token q
      elses q = by (same_side x q.x) refl
        where
          same-as : (a b : Side) → same_side a b ≡ true → b ≡ a
          same-as A A i = refl
          same-as B B i = refl
          same-as A B i = absurd (true≢false (sym i))
          same-as B A i = absurd (true≢false (sym i))

          by : (b : Bool) → same_side x q.x ≡ b → (same_side x q.x ≡ false) ⊎ ((token == q.offer.offer.token) ≡ false)
          by false i = inl i
          by true i = inr (subst (λ r. IsElse token r) (subst (λ y. offered (other y) q.s past ≡ Some q.offer) (same-as x q.x i) q.offered_is) (is q.s))

      new-posts : Carries Size x place token 0 All [] 0
      new-posts = strange-news setup one payload e past n p x place token 0 elses

      with-new : (k : ℕ) (rest : List Post) → leaving the_link x e past ≡ k → drop k (waiting_posts x past) ≡ rest → Carries Size x place token 0 rest [] 0 → Carries Size x place token 0 (waiting_posts x (e ∷ past)) [] 0
      with-new k rest l d c = subst (λ ps. Carries Size x place token 0 ps [] 0) (sym (posts-by k rest l d)) (carries-append Size x place token All [] 0 0 new-posts 0 rest [] c)

      strange-by : Way payload the_link x e past → Carries Size x place token 0 (waiting_posts x (e ∷ past)) [] 0
      strange-by (inl w) = let l = w.0 in with-new 0 (waiting_posts x past) l.leaves (drop-none (waiting_posts x past)) (strange token place is)
      strange-by (inr (inl w)) = let l = w.0 in
          let q : waiting_posts x past ≡ (l.first).post ∷ Posts l.rest = ap (λ cs. Posts cs) l.waiting in
          with-new 1 (Posts l.rest) l.leaves (ap (λ ps. drop 1 ps) q ∙ drop-none (Posts l.rest)) (first-leaves Size x place token (l.first).post (Posts l.rest) (subst (λ ps. Carries Size x place token 0 ps [] 0) q (strange token place is)))
      strange-by (inr (inr w)) = let l = w.0 in with-new 0 (waiting_posts x past) l.leaves (drop-none (waiting_posts x past)) (strange token place is)

      pub strange-on : Carries Size x place token 0 (waiting_posts x (e ∷ past)) [] 0
      strange-on = let g = gives-items setup one payload e past n p in strange-by (g.way x)

    -- a new offer
    pub new-reaches : (s : ℕ) (o : Offered) → offered (other x) s (e ∷ past) ≡ Some o → offered (other x) s past ≡ None → Reaches setup payload x s o (e ∷ past)
    new-reaches s o f none =
        let sh = shaken setup one payload (e ∷ past) n p in
        let q = sh.1 in
        let r = q.1 in
        let h : Half = half x (pipe_of setup payload 1 s (e ∷ past)) in
        let k : Half = half (other x) (pipe_of setup payload 1 s (e ∷ past)) in
        let idle : h.sent ≡ [] = new-end setup payload e past p.0 p.0 n p.1 p.3 p (has-offers setup one payload past p.0 p.3) q.0 r.0 r.1 sh (agrees setup payload past p.0 p.3 r.1) x s none in
        let cs = (let a = agrees setup payload (e ∷ past) n p sh in a.part_can_be s) in
        let fs : Follows h k = follows (terms_of setup) x (part payload 1 s (e ∷ past)) (part-open setup payload 1 s (e ∷ past) n p sh) cs.feasible cs.whole in
        let last : 0 ≡ h.last.told = subst (λ ms. GoOn 0 ms h.last.told) idle fs.0 in
        let left : drop h.landed h.sent ≡ [] = nothing-left h.landed h.sent idle in
        let taken : k.taken.told ≡ h.last.told = subst (λ ms. GoOn k.taken.told ms h.last.told) left fs.1 in
        let c = strange-on o.offer.token (offered_place o.offer) (new-token setup (other x) s o e past sh.0 go f none) in
        record {
          reach = 0;
          carries = subst (λ ms. Carries Size x (offered_place o.offer) o.offer.token 0 (waiting_posts x (e ∷ past)) ms h.last.told) (sym left)
              (subst (λ t. Carries Size x (offered_place o.offer) o.offer.token 0 (waiting_posts x (e ∷ past)) [] t) last c);
          told = omega (arith, taken, last);
          stand = λ i above below. absurd (omega (arith, below));
        }

  -- after every played history
  pub all-reach : (past : List Entry) (n : ℕ) → IsPlayed setup payload past n → AllReach setup one payload x past × (IsRmb setup (other x) (peer_buffer setup payload x 1 past) × AllStrange past)
  all-reach [] n p = (
    λ s o f. absurd (true≢false (sym (ap (λ r. is_some r) f))),
    (record { whole = a_new_buffer_is_whole 1 (elements_of setup (other x)) Size (some-bytes setup); rmb = refl; size = refl; elements = refl }, λ token place is. (refl, refl)),
  )
  all-reach (e ∷ past) n p =
      let a = all-reach past p.0 p.3 in
      let b = a.1 in (
        λ s o f. by s o f (offered (other x) s past) refl a.0 b.0 b.1,
        (rmb-on setup one payload x e past n p a.0 b.0, λ token place is. strange-on e past n p b.1 token place (λ s. else-before (other x) s e past (go e past n p b.1) token (is s))),
      )
    where
      by : (s : ℕ) (o : Offered) → offered (other x) s (e ∷ past) ≡ Some o → (q : Option Offered) → offered (other x) s past ≡ q → AllReach setup one payload x past → IsRmb setup (other x) (peer_buffer setup payload x 1 past) → AllStrange past → Reaches setup payload x s o (e ∷ past)
      by s o f None g all is strange = new-reaches e past n p strange s o f g
      by s o f (Some r) g all is strange =
          let kept = go e past n p strange in
          subst (λ (q : Offered). Reaches setup payload x s q (e ∷ past)) (some-is r o (sym (kept.kept (other x) s r g) ∙ f)) (reach-on setup one payload x e past n p all is s r g)

module _ (setup : Setup) (one : IsOneLink setup) (payload : List ℕ) where
  pub bytes-reach : (past : List Entry) (n : ℕ) → IsPlayed setup payload past n → (x : Side) (s : ℕ) (o : Offered) → offered (other x) s past ≡ Some o → Reaches setup payload x s o past
  bytes-reach past n p x s o f = let a = all-reach setup one payload x past n p in a.0 s o f

  pub is-rmb : (past : List Entry) (n : ℕ) → IsPlayed setup payload past n → (y : Side) → IsRmb setup y (buffer_of setup payload y 1 past)
  is-rmb past n p A = let a = all-reach setup one payload B past n p in let b = a.1 in b.0
  is-rmb past n p B = let a = all-reach setup one payload A past n p in let b = a.1 in b.0

  stands-by : (past : List Entry) (x : Side) (s : ℕ) (o : Offered) → Reaches setup payload x s o past → Stand (element_size setup) (offered_place o.offer) (half (other x) (pipe_of setup payload 1 s past)).rd (half (other x) (pipe_of setup payload 1 s past)).taken.told (half x (pipe_of setup payload 1 s past)).out (peer_buffer setup payload x 1 past)
  stands-by past x s o r i above below = let t = r.told in r.stand i above (omega (arith, below, t))

  -- what an end was told of and has not read stands in its element
  pub told-stand : (past : List Entry) (n : ℕ) → IsPlayed setup payload past n → (y : Side) (s : ℕ) (o : Offered) → offered y s past ≡ Some o →
      Stand (element_size setup) (offered_place o.offer) (half y (pipe_of setup payload 1 s past)).rd (half y (pipe_of setup payload 1 s past)).taken.told (half (other y) (pipe_of setup payload 1 s past)).out (buffer_of setup payload y 1 past)
  told-stand past n p A s o f = stands-by past B s o (bytes-reach past n p B s o f)
  told-stand past n p B s o f = stands-by past A s o (bytes-reach past n p A s o f)

  -- the same by the socket's own group
  pub told-stand-on : (past : List Entry) (n : ℕ) → IsPlayed setup payload past n → (y : Side) (s : ℕ) (o : Offered) → offered y s past ≡ Some o →
      Stand (element_size setup) (offered_place o.offer) (half y (pipe_of setup payload (group_on s past) s past)).rd (half y (pipe_of setup payload (group_on s past) s past)).taken.told (half (other y) (pipe_of setup payload (group_on s past) s past)).out (buffer_of setup payload y 1 past)
  told-stand-on past n p y s o f =
      subst (λ g. Stand (element_size setup) (offered_place o.offer) (half y (pipe_of setup payload g s past)).rd (half y (pipe_of setup payload g s past)).taken.told (half (other y) (pipe_of setup payload g s past)).out (buffer_of setup payload y 1 past))
      (sym (grouped setup past (has-offers setup one payload past n p) y s o f)) (told-stand past n p y s o f)
