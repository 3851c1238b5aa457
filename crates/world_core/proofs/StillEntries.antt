-- An entry that moves no link, of plain posts: what stays of a side's desk, its lendings, and the ends.
use Rattle.std.proofs.Common.{◌≡◌, ◌∙◌, ℕ, ◌==◌, ◌||◌, not, Bool, true, false, if◌then◌else◌, List, [], ◌∷◌, ◌++◌, filter, filter_map, flat_map, refl, ap, sym}
use Rattle.std.specs.Prelude.{None, fold}
use Rattle.smc_num.specs.declared.Side.{Side}
use Rattle.smc_num.specs.declared.Side.TheVariants.{A, B}
use Rattle.smc_num.specs.Names.{other}
use Rattle.smc_num.specs.Keys.{Key}
use Rattle.pipe_model.specs.declared.setup.Setup.{Setup}
use Rattle.pipe_model.specs.declared.post.Post.{Post}
use Rattle.pipe_model.specs.declared.entry.Entry.{Entry}
use Rattle.pipe_model.specs.declared.sent.Sent.{Sent}
use Rattle.pipe_model.specs.Words.{element_size}
use Rattle.pipe_model.specs.History.{offered}
use Rattle.pipe_model.specs.Fabric.{Fabric, fabric, peer, act_in, group_of, table_of, flow_of}
use Rattle.pipe_model.specs.Ends.{is_over}
use Rattle.pipe_model.specs.Pipe.{Item, half, pipe, posts_of, sent_since}
use Rattle.pipe_model.specs.Connections.{group_on, items, part}
use Rattle.pipe_model.specs.Keys.{keys_of, book_of, by_post, by_act, if_group, book_clc, book_act}
use Rattle.pipe_model.specs.Lending.{Lending, lends, lent, returns, leaves_handshake, terms_of, pipe_of}
use Rattle.pipe_model.specs.Posts.{sent_posts, end_posts, pipe_posts, offered_sockets, connection_posts}
use Rattle.world_core.specs.OneLink.{Stage, IsAtStage, fabric_at}
use Rattle.world_core.specs.Wired.{EachItem, keeps_open}
use Rattle.world_core.specs.Managers.{end_of}
use Rattle.world_core.proofs.Moves.{has-group, has-book}
use Rattle.world_core.proofs.OpenEnds.{never-over}
use Rattle.world_core.proofs.PlainPosts.{ArePlain, plain-keys, groups-stay, pairs-stay, serial-stays, lendings-stay, first-stays}
use Rattle.pipe_model.specs.Messages.{act_pair}
use Rattle.world_core.proofs.QuietEntries.{all-stay, same-group}
use Rattle.world_core.proofs.SameManagers.{SameDesk}
use Rattle.std.proofs.Math.Seq.{drop-length}

module _ (setup : Setup) (payload : List ℕ) (past : List Entry) where
  -- an entry that gives no items makes no end post
  module _ (q : Entry) (none : (g s : ℕ) → items payload g s q past ≡ []) where
    none-given : (x : Side) (s : ℕ) → posts_of (terms_of setup) x (items payload (group_on s past) s q past) (part payload (group_on s past) s past) ≡ []
    none-given x s =
        let before = half x (pipe (terms_of setup) (part payload (group_on s past) s past)) in
        ap (λ (is : List Item). sent_since before (half x (pipe (terms_of setup) (is ++ part payload (group_on s past) s past)))) (none (group_on s past) s) ∙ drop-length before.sent

    none-posts : (x : Side) (s : ℕ) → end_posts setup payload x s q past ≡ []
    none-posts x s = ap (λ (ms : List Sent). flat_map (sent_posts (element_size setup) x (offered (other x) s past) (q ∷ past)) ms) (none-given x s)

    none-at : (ss : List ℕ) → flat_map (λ s. pipe_posts setup payload s q past) ss ≡ []
    none-at [] = refl
    none-at (s ∷ ss) =
        ap (λ (ps : List Post). (ps ++ end_posts setup payload B s q past) ++ flat_map (λ s. pipe_posts setup payload s q past) ss) (none-posts A s)
        ∙ (ap (λ (ps : List Post). ps ++ flat_map (λ s. pipe_posts setup payload s q past) ss) (none-posts B s) ∙ none-at ss)

    pub silent-pipes : connection_posts setup payload q past ≡ []
    silent-pipes = none-at (offered_sockets setup past)

    -- and leaves the pipe of a connection
    pub part-stays : (g s : ℕ) → part payload g s (q ∷ past) ≡ part payload g s past
    part-stays g s = ap (λ (is : List Item). is ++ part payload g s past) (none g s)

    pub end-stays : (x : Side) (s : ℕ) → group_on s (q ∷ past) ≡ group_on s past → end_of setup payload x s (q ∷ past) ≡ end_of setup payload x s past
    end-stays x s same =
        ap (λ g. half x (pipe (terms_of setup) (part payload g s (q ∷ past)))) same
        ∙ ap (λ (is : List Item). half x (pipe (terms_of setup) is)) (part-stays (group_on s past) s)

-- the lendings
module _ (setup : Setup) (payload : List ℕ) (x : Side) (e : Entry) (past : List Entry) (group : group_of x (e ∷ past) ≡ group_of x past) (open_items : (group s : ℕ) → EachItem keeps_open (part payload group s (e ∷ past))) where
  -- a lending ends by the handshake alone
  pub returns-by : (l : Lending) → returns setup payload x e past l ≡ leaves_handshake x l.s e.event e.reply
  returns-by l =
      ap (λ b. leaves_handshake x l.s e.event e.reply || (b || is_over (half x (pipe_of setup payload l.group l.s (e ∷ past))))) (same-group l.group (group_of x past) (group_of x (e ∷ past)) group)
      ∙ (ap (λ b. leaves_handshake x l.s e.event e.reply || b) (never-over (terms_of setup) x (part payload l.group l.s (e ∷ past)) (open_items l.group l.s)) ∙ or-false (leaves_handshake x l.s e.event e.reply))
    where
      or-false : (b : Bool) → (b || false) ≡ b
      or-false true = refl
      or-false false = refl

  pub lent-stays : filter_map (lends x) e.posts ≡ [] → ((s : ℕ) → leaves_handshake x s e.event e.reply ≡ false) → lent setup payload x (e ∷ past) ≡ lent setup payload x past
  lent-stays none stays =
      ap (λ (ls : List Lending). ls ++ filter (λ l. not (returns setup payload x e past l)) (lent setup payload x past)) none
      ∙ all-stay (λ l. not (returns setup payload x e past l)) (lent setup payload x past) (λ l. ap (λ b. not b) (returns-by l ∙ stays l.s))

-- the desk
module _ (setup : Setup) (payload : List ℕ) (stage : Stage) (x : Side) (e : Entry) (past : List Entry) (at : IsAtStage setup stage past) (now : fabric (e ∷ past) ≡ fabric past) (acts : act_in x e past ≡ None) (plain : ArePlain e.posts) where
  pub keys-stay : keys_of x (e ∷ past) ≡ keys_of x past
  keys-stay =
      ap (λ (f : Fabric). if_group (peer x f).group (fold (by_post x (peer x f).table) (by_act x (flow_of x past) (peer x f).table (act_in x e past) (keys_of x past)) e.posts)) now
      ∙ (ap (λ ks. if_group (group_of x past) ks) (plain-keys x (table_of x past) (by_act x (flow_of x past) (table_of x past) (act_in x e past) (keys_of x past)) e.posts plain)
      ∙ (ap (λ a. if_group (group_of x past) (by_act x (flow_of x past) (table_of x past) a (keys_of x past))) acts
      ∙ (ap (λ (f : Fabric). if_group (peer x f).group (keys_of x past)) at.fabric_is
      ∙ (ap (λ ks. if_group (peer x (fabric_at stage)).group ks) (at.keys x) ∙ (has-group x stage ∙ sym (at.keys x))))))

  pub book-stays : book_clc x e.event e.reply past (book_of x past) ≡ book_of x past → book_of x (e ∷ past) ≡ book_of x past
  book-stays same =
      ap (λ (f : Fabric). if (peer x f).group == 0 then [] else book_clc x e.event e.reply past (book_act (table_of x past) (act_in x e past) (book_of x past))) now
      ∙ (ap (λ a. if group_of x past == 0 then [] else book_clc x e.event e.reply past (book_act (table_of x past) a (book_of x past))) acts
      ∙ (ap (λ (b : List Key). if group_of x past == 0 then [] else b) same
      ∙ (ap (λ (f : Fabric). if (peer x f).group == 0 then [] else book_of x past) at.fabric_is
      ∙ (ap (λ (b : List Key). if (peer x (fabric_at stage)).group == 0 then [] else b) (at.book x) ∙ (has-book x stage ∙ sym (at.book x))))))

  pub still-desk : book_clc x e.event e.reply past (book_of x past) ≡ book_of x past → lent setup payload x (e ∷ past) ≡ lent setup payload x past → SameDesk setup payload x (e ∷ past) past
  still-desk same lent_same = record {
    fabric_is = now;
    groups = groups-stay e past plain;
    pairs = pairs-stay e past plain x (ap (λ a. act_pair a) acts);
    serial_is = serial-stays e past plain x (ap (λ a. act_pair a) acts);
    keys = keys-stay;
    book = book-stays same;
    all = lendings-stay e past plain x;
    lent_is = lent_same;
    first = first-stays e past plain x;
  }
