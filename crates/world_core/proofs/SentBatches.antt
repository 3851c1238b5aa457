-- Each write that waits to land on the one link is directed: every batch that is posted goes into the element of an offer.
use Rattle.std.proofs.Common.{◌≡◌, ◌∙◌, ◌⊎◌, inl, inr, ℕ, ◌+◌, Bool, true, false, List, [], ◌∷◌, length, drop, filter_map, refl, ap, sym, subst, arith}
use Rattle.std.specs.Prelude.{Option, Some, None, unwrap_or}
use Rattle.std.specs.Option.{option_or}
use Rattle.smc_num.specs.declared.Side.{Side}
use Rattle.smc_num.specs.declared.Side.TheVariants.{A, B}
use Rattle.smc_num.specs.Names.{other, head}
use Rattle.smc_num.specs.Places.{rmb_at}
use Rattle.smc_num.specs.Keys.{bound}
use Rattle.pipe_model.specs.declared.post.Post.{Post}
use Rattle.pipe_model.specs.declared.setup.Setup.{Setup}
use Rattle.pipe_model.specs.declared.entry.Entry.{Entry}
use Rattle.pipe_model.specs.declared.sent.Sent.{Sent}
use Rattle.pipe_model.specs.Words.{element_size}
use Rattle.pipe_model.specs.History.{Offered, offered, next_number, numbered}
use Rattle.pipe_model.specs.Fabric.{peer}
use Rattle.pipe_model.specs.Wires.{is_on, unlanded}
use Rattle.pipe_model.specs.Ends.{Half}
use Rattle.pipe_model.specs.Pipe.{Terms, half, pipe, posts_of}
use Rattle.pipe_model.specs.Parts.{EachOf, CarriesFew, IsFeasible}
use Rattle.pipe_model.specs.Connections.{is_up, part, group_on}
use Rattle.pipe_model.specs.Lending.{terms_of, pipe_of}
use Rattle.pipe_model.specs.Keys.{Keys, no_keys, keys_of, last_bound}
use Rattle.pipe_model.specs.Posts.{connection_posts}
use Rattle.pipe_model.specs.Replies.{told}
use Rattle.pipe_model.specs.Home.{cdc_in}
use Rattle.pipe_model.specs.Lawful.{draft}
use Rattle.pipe_model.proofs.Pipes.{carries-few}
use Rattle.world_core.specs.Played.{IsOneLink, IsPlayed, handed}
use Rattle.world_core.specs.OneLink.{Stage, the_link, the_key, the_keys, keys_at, fabric_at}
use Rattle.world_core.specs.Sockets.{IsWorld}
use Rattle.world_core.specs.Views.{plus}
use Rattle.world_core.specs.WireSteps.{EachPlaced, leaving}
use Rattle.world_core.specs.Agreement.{HasPipe, PostsOne, PostsFew}
use Rattle.world_core.specs.Directed.{GoesHome, IsUnderWay, EachThen}
use Rattle.world_core.proofs.PlayedWorlds.{played}
use Rattle.world_core.proofs.Handshaken.{shaken, has-offers, one-batch, gives-items}
use Rattle.world_core.proofs.Own.{grouped}
use Rattle.world_core.proofs.Pipes.{has-pipe}
use Rattle.world_core.proofs.Agreed.{each-drop}
use Rattle.world_core.proofs.Places.{placed-append, placed-drop, placed-filter, placed-more}
use Rattle.world_core.proofs.AskedPosts.{asked-control}
use Rattle.world_core.proofs.DataPosts.{connections-data, shows-plus}
use Rattle.world_core.proofs.LinkFacts.{offers-none}
use Rattle.world_core.proofs.Records.{all-offers}
use Rattle.world_core.proofs.BoundKeys.{now-bound, keys-are}
use Rattle.world_core.proofs.DirectedWrites.{batch-goes, control-front, new-under-way, under-way-still}

-- a side that has offered has its key
pub offered-keys : (setup : Setup) (stage : Stage) (past : List Entry) → IsWorld setup stage past → (x : Side) (s : ℕ) (o : Offered) → offered x s past ≡ Some o → keys_of x past ≡ the_keys x
offered-keys setup stage past w x s o e = by (keys-are x stage)
  where
    by : (((peer x (fabric_at stage)).group ≡ 0) × (keys_at x stage ≡ no_keys)) ⊎ (keys_at x stage ≡ the_keys x) → keys_of x past ≡ the_keys x
    by (inl z) = absurd (let g : None ≡ Some o = sym (offers-none setup stage past w x z.0 s) ∙ e in cc)
    by (inr k) = let at = w.link in at.keys x ∙ k

bound-at : (x : Side) → bound 1 the_link (the_keys x).keys ≡ Some (the_key x).key
bound-at A = refl
bound-at B = refl

-- so it was bound last
last-at : (x : Side) (past : List Entry) → keys_of x past ≡ the_keys x → last_bound x 1 the_link past ≡ Some (the_key x).key
last-at x [] e = absurd (let g : 0 ≡ 1 = ap (λ (ks : Keys). length ks.keys) e in omega (arith, g))
last-at x (e ∷ past) f = ap (λ (ks : Keys). option_or (bound 1 the_link ks.keys) (last_bound x 1 the_link past)) f ∙ ap (λ (o : Option ℕ). option_or o (last_bound x 1 the_link past)) (bound-at x)

last-on : (x : Side) (e : Entry) (past : List Entry) → (keys_of x (e ∷ past) ≡ no_keys) ⊎ (keys_of x (e ∷ past) ≡ the_keys x) → last_bound x 1 the_link past ≡ Some (the_key x).key → last_bound x 1 the_link (e ∷ past) ≡ Some (the_key x).key
last-on x e past (inl f) g = ap (λ (ks : Keys). option_or (bound 1 the_link ks.keys) (last_bound x 1 the_link past)) f ∙ g
last-on x e past (inr f) g = last-at x (e ∷ past) f

module _ (setup : Setup) (one : IsOneLink setup) (payload : List ℕ) where
  module _ (e : Entry) (past : List Entry) (n : ℕ) (p : IsPlayed setup payload (e ∷ past) n) where
    abbrev T : Terms
    T = terms_of setup

    abbrev D : Entry
    D = draft setup payload past p.0 e.event

    abbrev M : List Post
    M = connection_posts setup payload D past

    kept : (x : Side) (s : ℕ) (o : Offered) → offered x s past ≡ Some o → offered x s (e ∷ past) ≡ Some o
    kept = let g = gives-items setup one payload e past n p in let go = g.goes_on in go.kept

    -- the one end that posts
    module _ (q : PostsOne setup payload D past) where
      abbrev End : ℕ → Half
      End g = half q.x (pipe_of setup payload g q.s (e ∷ past))

      pipe-is : HasPipe setup payload q.s (e ∷ past)
      pipe-is = has-pipe setup payload q.s (e ∷ past) n p (shaken setup one payload (e ∷ past) n p)

      group-now : group_on q.s (e ∷ past) ≡ 1
      group-now = grouped setup (e ∷ past) (has-offers setup one payload (e ∷ past) n p) (other q.x) q.s q.offer (kept (other q.x) q.s q.offer q.offered_is)

      since : drop (length (half q.x (pipe T (part payload 1 q.s past))).sent) (End 1).sent ≡ q.sent ∷ []
      since = let g = gives-items setup one payload e past n p in ap (λ is. posts_of T q.x is (part payload 1 q.s past)) (sym (g.of_draft 1 q.s)) ∙ q.sent_is

      its : (P : Sent → Type 0) → EachOf P (End 1).sent → P q.sent
      its P all = let each = subst (λ ms. EachOf P ms) since (each-drop P (length (half q.x (pipe T (part payload 1 q.s past))).sent) (End 1).sent all) in each.0

      up-now : is_up q.x q.s (e ∷ past) ≡ true
      up-now = by (is_up q.x q.s (e ∷ past)) refl
        where
          by : (b : Bool) → is_up q.x q.s (e ∷ past) ≡ b → is_up q.x q.s (e ∷ past) ≡ true
          by true f = f
          by false f =
              let h = pipe-is in
              let none : (End 1).sent ≡ [] = subst (λ g. (End g).sent ≡ []) group-now (h.idle q.x f) in
              absurd (its (λ m. ⊥) (subst (λ ms. EachOf (λ m. ⊥) ms) (sym none) tt))

      sent-on : q.sent.link ≡ the_link
      sent-on =
          let h = pipe-is in
          let o = h.on_link q.x in
          its (λ m. m.link ≡ the_link) (subst (λ g. EachOf (λ m. m.link ≡ the_link) (End g).sent) group-now o.sent)

      sent-few : CarriesFew (element_size setup) (length (End 1).out) q.sent
      sent-few =
          let h = pipe-is in
          let c = h.can_be in
          let f : IsFeasible T (part payload 1 q.s (e ∷ past)) = subst (λ g. IsFeasible T (part payload g q.s (e ∷ past))) group-now c.feasible in
          its (CarriesFew (element_size setup) (length (End 1).out)) (carries-few T q.x (part payload 1 q.s (e ∷ past)) f)

      -- the draft with what the pipes post could be played as well
      played-draft : IsPlayed setup payload (plus D M ∷ past) (p.0 + handed (told setup payload past e.event))
      played-draft = let made = p.1 in (p.0, record { built = made.built; reply = refl; posts = refl }, refl, p.3)

      draft-keys : (y : Side) → (keys_of y (D ∷ past) ≡ no_keys) ⊎ (keys_of y (D ∷ past) ≡ the_keys y)
      draft-keys y = by (now-bound setup one payload (plus D M ∷ past) (p.0 + handed (told setup payload past e.event)) played-draft y)
        where
          same : keys_of y (D ∷ past) ≡ keys_of y (plus D M ∷ past)
          same = let h = shows-plus D M past (connections-data setup payload D past) in sym (h.keys y)

          by : (keys_of y (plus D M ∷ past) ≡ no_keys) ⊎ (keys_of y (plus D M ∷ past) ≡ the_keys y) → (keys_of y (D ∷ past) ≡ no_keys) ⊎ (keys_of y (D ∷ past) ≡ the_keys y)
          by (inl f) = inl (same ∙ f)
          by (inr f) = inr (same ∙ f)

      -- the key is the peer's one
      abbrev Key : ℕ
      Key = unwrap_or (last_bound (other q.x) (rmb_at q.offer.offer.address) q.sent.link (D ∷ past)) 0

      key-is : Key ≡ (the_key (other q.x)).key
      key-is =
          let w = played setup one payload past p.0 p.3 in
          let offers = all-offers setup w.stage past w.world (other q.x) q.s q.offer q.offered_is in
          let o = offers.1 in
          let last = last-on (other q.x) D past (draft-keys (other q.x)) (last-at (other q.x) past (offered-keys setup w.stage past w.world (other q.x) q.s q.offer q.offered_is)) in
          ap (λ r. unwrap_or (last_bound (other q.x) r q.sent.link (D ∷ past)) 0) o.rmb ∙ ap (λ l. unwrap_or (last_bound (other q.x) 1 l (D ∷ past)) 0) sent-on ∙ ap (λ k. unwrap_or k 0) last

      one-goes : EachThen (λ post rest. GoesHome setup (head (filter_map cdc_in rest)) (e ∷ past) post) M
      one-goes = subst (λ ps. EachThen (λ post rest. GoesHome setup (head (filter_map cdc_in rest)) (e ∷ past) post) ps) (sym q.posts_are)
          (batch-goes setup q.x q.s q.offer Key (length (End 1).out) q.sent (e ∷ past) (kept (other q.x) q.s q.offer q.offered_is) up-now sent-on key-is sent-few)

    batches-go : PostsFew setup payload D past → EachThen (λ post rest. GoesHome setup (head (filter_map cdc_in rest)) (e ∷ past) post) M
    batches-go (inl none) = subst (λ ps. EachThen (λ post rest. GoesHome setup (head (filter_map cdc_in rest)) (e ∷ past) post) ps) (sym none) tt
    batches-go (inr q) = one-goes q

    posts-go : EachThen (λ post rest. GoesHome setup (head (filter_map cdc_in rest)) (e ∷ past) post) e.posts
    posts-go =
        let made = p.1 in
        subst (λ ps. EachThen (λ post rest. GoesHome setup (head (filter_map cdc_in rest)) (e ∷ past) post) ps) (sym made.posts)
        (control-front setup (e ∷ past) D.posts M (asked-control setup payload past e.event D.reply made.built) (batches-go (one-batch setup one payload e past n p)))

  -- each post that waits to land is directed, where it is a write
  pub under-way : (past : List Entry) (n : ℕ) → IsPlayed setup payload past n → (x : Side) → EachPlaced (IsUnderWay setup past) (unlanded the_link x past)
  under-way [] n p x = tt
  under-way (e ∷ past) n p x = placed-append (IsUnderWay setup (e ∷ past)) (drop (leaving the_link x e past) (unlanded the_link x past)) _
      (placed-drop (IsUnderWay setup (e ∷ past)) (leaving the_link x e past) (unlanded the_link x past) (placed-more (IsUnderWay setup past) (IsUnderWay setup (e ∷ past)) (under-way-still setup e past (kept e past n p)) (unlanded the_link x past) (under-way past p.0 p.3 x)))
      (placed-filter (IsUnderWay setup (e ∷ past)) (λ c. is_on the_link x c.post) (numbered (next_number past) 1 e.posts) (new-under-way setup e past [] e.posts 1 refl (omega arith) (posts-go e past n p)))
