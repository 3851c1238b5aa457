-- An entry that does something to the end of one socket at one side: what it makes of the two managers, and what is posted.
use Rattle.std.proofs.Common.{◌≡◌, ◌∙◌, ℕ, ◌<◌, ◌==◌, Bool, true, false, List, [], ◌∷◌, ◌++◌, length, drop, flat_map, refl, ap, sym, subst, append-nil, arith, eqb-true}
use Rattle.smc_num.specs.declared.Side.{Side}
use Rattle.smc_num.specs.declared.Side.TheVariants.{A, B}
use Rattle.smc_num.specs.Names.{other}
use Rattle.rmb_region.specs.Regions.{Buffer}
use Rattle.pipe_model.specs.declared.setup.Setup.{Setup}
use Rattle.pipe_model.specs.declared.post.Post.{Post}
use Rattle.pipe_model.specs.declared.entry.Entry.{Entry}
use Rattle.pipe_model.specs.declared.sent.Sent.{Sent}
use Rattle.pipe_model.specs.Words.{element_size}
use Rattle.pipe_model.specs.History.{offered}
use Rattle.pipe_model.specs.Ends.{Half, settle}
use Rattle.pipe_model.specs.Pipe.{Item, half, pipe, posts_of, sent_since}
use Rattle.pipe_model.specs.Connections.{group_on, deeds, items, part}
use Rattle.pipe_model.specs.Lending.{terms_of}
use Rattle.pipe_model.specs.Posts.{sent_posts, end_posts, pipe_posts, is_offered, offered_sockets, connection_posts}
use Rattle.pipe_model.specs.Lawful.{asked}
use Rattle.side_core.specs.Acting.{acts_at, due_at, due_from}
use Rattle.world_core.specs.OneLink.{Stage}
use Rattle.world_core.specs.Played.{IsMade}
use Rattle.world_core.specs.Managers.{manager_of, conn_of, end_of, changes_end}
use Rattle.world_core.proofs.PipePosts.{met}
use Rattle.world_core.proofs.PipeSteps.{sent-by}
use Rattle.world_core.proofs.KeptManagers.{conn-at, manager-kept, end-changed, end-acted}
use Rattle.world_core.proofs.QuietEntries.{IsCalm, shows-bare, desk-stays, socket-stays, end-now, bare-items}
use Rattle.world_core.proofs.KeyedEnds.{KnowsEnds, up-facts}
use Rattle.world_core.proofs.DuePosts.{only-pipes, end-due}
use Rattle.std.proofs.Math.Seq.{drop-length}

-- the entry as the pipes see it
abbrev pub as_seen : Entry → Entry
as_seen e = record { actor = 0; event = e.event; reply = e.reply; posts = [] }

none-since : (before now : Half) → now.sent ≡ before.sent → sent_since before now ≡ []
none-since before now e = ap (λ (ms : List Sent). drop (length before.sent) ms) e ∙ drop-length before.sent

module _ (setup : Setup) (payload : List ℕ) (regions : List Buffer) (stage : Stage) (e : Entry) (past : List Entry) (calm : IsCalm setup payload stage e past) (knows : KnowsEnds setup payload past) where
  -- the pipe of a socket before the entry
  abbrev before_at : Side → ℕ → Half
  before_at x s = end_of setup payload x s past

  -- and with what the entry gives it
  abbrev pub after_at : Side → ℕ → Half
  after_at x s = half x (pipe (terms_of setup) (deeds payload s e.event e.reply past ++ part payload (group_on s past) s past))

  given-is : (x : Side) (s : ℕ) → posts_of (terms_of setup) x (items payload (group_on s past) s (as_seen e) past) (part payload (group_on s past) s past) ≡ sent_since (before_at x s) (after_at x s)
  given-is x s = ap (λ (is : List Item). sent_since (before_at x s) (half x (pipe (terms_of setup) (is ++ part payload (group_on s past) s past)))) (bare-items setup payload stage e past calm (group_on s past) s)

  -- an end that sends nothing posts nothing
  pub silent : (x : Side) (s : ℕ) → (after_at x s).sent ≡ (before_at x s).sent → end_posts setup payload x s (as_seen e) past ≡ []
  silent x s same = ap (λ (ms : List Sent). flat_map (sent_posts (element_size setup) x (offered (other x) s past) (as_seen e ∷ past)) ms) (given-is x s ∙ none-since (before_at x s) (after_at x s) same)

  unmoved : (x : Side) (s : ℕ) → deeds payload s e.event e.reply past ≡ [] → after_at x s ≡ before_at x s
  unmoved x s none = ap (λ (is : List Item). half x (pipe (terms_of setup) (is ++ part payload (group_on s past) s past))) none

  pub unmoved-posts : (s : ℕ) → deeds payload s e.event e.reply past ≡ [] → pipe_posts setup payload s (as_seen e) past ≡ []
  unmoved-posts s none =
      ap (λ (ps : List Post). ps ++ end_posts setup payload B s (as_seen e) past) (silent A s (ap (λ (h : Half). h.sent) (unmoved A s none)))
      ∙ silent B s (ap (λ (h : Half). h.sent) (unmoved B s none))

  -- the end at which something was done
  pub acted-posts : (x : Side) (s : ℕ) (act : Half → Half) → after_at x s ≡ settle setup.depth (act (before_at x s))
      → (act (before_at x s)).up ≡ (before_at x s).up → (act (before_at x s)).link ≡ (before_at x s).link → (act (before_at x s)).sent ≡ (before_at x s).sent
      → end_posts setup payload x s (as_seen e) past ≡ due_from act (manager_of setup payload regions x past) (conn_of setup payload x past s)
  acted-posts x s act own up link sent =
      ap (λ (ms : List Sent). flat_map (sent_posts (element_size setup) x (offered (other x) s past) (as_seen e ∷ past)) ms)
      (given-is x s ∙ (ap (λ h. sent_since (before_at x s) h) own ∙ sent-by setup.depth (before_at x s) (act (before_at x s)) sent))
      ∙ end-due setup payload regions (as_seen e) past (let v = shows-bare setup payload stage e past calm in v.keys) knows (λ y t u. up-facts setup payload stage y t past calm.world knows u) x s act up link

  one-side : (x : Side) (s : ℕ) → end_posts setup payload (other x) s (as_seen e) past ≡ [] → pipe_posts setup payload s (as_seen e) past ≡ end_posts setup payload x s (as_seen e) past
  one-side A s none = ap (λ (ps : List Post). end_posts setup payload A s (as_seen e) past ++ ps) none ∙ append-nil (end_posts setup payload A s (as_seen e) past)
  one-side B s none = ap (λ (ps : List Post). ps ++ end_posts setup payload B s (as_seen e) past) none

  -- nothing was done
  pub all-kept : ((s : ℕ) → deeds payload s e.event e.reply past ≡ []) → (x : Side) → manager_of setup payload regions x (e ∷ past) ≡ manager_of setup payload regions x past
  all-kept none x = manager-kept setup payload regions x (e ∷ past) past (desk-stays setup payload stage e past calm x) (socket-stays setup payload stage e past calm x)
      (λ s. end-now setup payload stage e past calm x s ∙ unmoved x s (none s))

  -- what an entry posts that asks for nothing
  module _ (before : ℕ) (made : IsMade setup payload past before e) (none_asked : asked setup payload past e.event e.reply ≡ []) where
    posts-are : e.posts ≡ connection_posts setup payload (as_seen e) past
    posts-are = made.posts ∙ only-pipes setup payload past before e.event e.reply made.reply none_asked

    none-posted : (ss : List ℕ) → ((s : ℕ) → deeds payload s e.event e.reply past ≡ []) → flat_map (λ s. pipe_posts setup payload s (as_seen e) past) ss ≡ []
    none-posted [] none = refl
    none-posted (s ∷ ss) none = ap (λ (ps : List Post). ps ++ flat_map (λ s. pipe_posts setup payload s (as_seen e) past) ss) (unmoved-posts s (none s)) ∙ none-posted ss none

    pub nothing-posted : ((s : ℕ) → deeds payload s e.event e.reply past ≡ []) → e.posts ≡ []
    nothing-posted none = posts-are ∙ none-posted (offered_sockets setup past) none

    -- one end posts
    pub one-posts : (x : Side) (s : ℕ) (act : Half → Half) → s < setup.sockets → is_offered past s ≡ true → ((t : ℕ) → (t == s) ≡ false → deeds payload t e.event e.reply past ≡ [])
        → after_at x s ≡ settle setup.depth (act (before_at x s)) → (after_at (other x) s).sent ≡ (before_at (other x) s).sent
        → (act (before_at x s)).up ≡ (before_at x s).up → (act (before_at x s)).link ≡ (before_at x s).link → (act (before_at x s)).sent ≡ (before_at x s).sent
        → e.posts ≡ due_at s act (manager_of setup payload regions x past)
    one-posts x s act l known others own theirs up link sent =
        posts-are
        ∙ (met (λ t. pipe_posts setup payload t (as_seen e) past) (is_offered past) s (λ t n. unmoved-posts t (others t n)) 1 setup.sockets known (omega arith) (omega arith) (omega (arith, l))
        ∙ (one-side x s (silent (other x) s theirs)
        ∙ (acted-posts x s act own up link sent
        ∙ ap (λ c. due_from act (manager_of setup payload regions x past) c) (sym (conn-at setup payload regions x past s l)))))

  -- something was done to one end
  module _ (s : ℕ) (l : s < setup.sockets) (others : (t : ℕ) → (t == s) ≡ false → deeds payload t e.event e.reply past ≡ []) where
    others-kept : (x : Side) (t : ℕ) → (t == s) ≡ false → end_of setup payload x t (e ∷ past) ≡ end_of setup payload x t past
    others-kept x t n = end-now setup payload stage e past calm x t ∙ unmoved x t (others t n)

    pub one-acted : (x : Side) (act : Half → Half) → after_at x s ≡ settle setup.depth (act (before_at x s)) → manager_of setup payload regions x (e ∷ past) ≡ acts_at s act (manager_of setup payload regions x past)
    one-acted x act own = end-acted setup payload regions x (e ∷ past) past (desk-stays setup payload stage e past calm x) (socket-stays setup payload stage e past calm x) s act l
        (others-kept x) (end-now setup payload stage e past calm x s ∙ own)

    pub one-changed : (x : Side) (act : Half → Half) → after_at x s ≡ act (before_at x s) → manager_of setup payload regions x (e ∷ past) ≡ changes_end s act (manager_of setup payload regions x past)
    one-changed x act own = end-changed setup payload regions x (e ∷ past) past (desk-stays setup payload stage e past calm x) (socket-stays setup payload stage e past calm x) s act l
        (others-kept x) (end-now setup payload stage e past calm x s ∙ own)

    pub one-kept : (x : Side) → after_at x s ≡ before_at x s → manager_of setup payload regions x (e ∷ past) ≡ manager_of setup payload regions x past
    one-kept x own = manager-kept setup payload regions x (e ∷ past) past (desk-stays setup payload stage e past calm x) (socket-stays setup payload stage e past calm x)
        (λ t. by t (t == s) refl)
      where
        by : (t : ℕ) (b : Bool) → (t == s) ≡ b → end_of setup payload x t (e ∷ past) ≡ end_of setup payload x t past
        by t true is = subst (λ k. end_of setup payload x k (e ∷ past) ≡ end_of setup payload x k past) (sym (eqb-true t s is)) (end-now setup payload stage e past calm x s ∙ own)
        by t false is = others-kept x t is
