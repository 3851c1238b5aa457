-- What lands with an entry, whatever its event: it was first on the wire of the latest link of its slot, which is not dead, and is what was under way of its kind.
use Rattle.std.proofs.Common.{Bool, List, ap, false, if◌then◌else◌, refl, subst, sym, true, ℕ, ◌∙◌, ◌∷◌, ◌≡◌}
use Rattle.std.specs.Prelude.{None, Option, Some, is_some}
use Rattle.pipe_model.specs.declared.reply.Reply.TheVariants.{Idle, Landed as LandedReply}
use Rattle.pipe_model.specs.Wires.{landing}
use Rattle.pipe_model.specs.Replies.{told}
use Rattle.pipe_model.specs.declared.post.Post.TheVariants.{Clc, Write}
use Rattle.history_laws.specs.Words.{Act, Cdc, Deliver, Dropped, Entry, LinkId, Llc, Placed, Post, PostRef, Setup, Side, act_in, act_of, deliver_told, fabric, is_dead, is_on, lands_told, latest, llc_step, other, post_at, record_of, reply_of, unlanded}
use Rattle.history_laws.specs.Made.{IsMade}
use Rattle.history_laws.proofs.Basics.{none-is, some-is}
use Rattle.link_laws.proofs.Fabric.{act-lands}
use Rattle.link_laws.proofs.UnderWay.{IsLanding, landed-is, landing-is, own-message}
use Rattle.link_laws.specs.Linked.{Under}
use Rattle.link_laws.specs.UnderWay.{AreCarriedOf, kind_messages, kind_of}

-- what is known of a message that lands at a side
pub record HasLanded (x : Side) (past : List Entry) (act : Act) : Type 0 where
  pub alive : is_dead act.link past ≡ false
  pub last : latest act.link.slot past ≡ Some act.link
  pub step_is : act.step ≡ llc_step x act.link act.message past (fabric past)
  pub first : Placed
  pub rest : List Placed
  pub post_is : first.post ≡ Llc (other x) act.link act.message
  pub front : unlanded act.link (other x) past ≡ first ∷ rest

-- what lands with an entry
pub has-landed : (setup : Setup) (payload : List ℕ) (past : List Entry) (before : ℕ) (e : Entry) → IsMade setup payload past before e → (x : Side) (act : Act) → act_in x e past ≡ Some act → HasLanded x past act
has-landed setup payload past before e made x act is = let a = act-lands x e.event e.reply past act is in at a.0 a.1.0 a.1.1.0 a.1.1.1.0 a.1.1.1.1
  where
    at : (slot : ℕ) → e.event ≡ Deliver slot (other x) → (p : PostRef) → act_of x (post_at p past) past ≡ Some act → e.reply ≡ LandedReply p → HasLanded x past act
    at slot ev p of r = by (landing slot (other x) past) refl (sym r ∙ (made.reply ∙ ap (λ v. reply_of before (told setup payload past v)) ev))
      where
        placed : (c : Placed) (post : Post) → LandedReply p ≡ lands_told setup payload (other (other x)) past c post → p ≡ c.at
        placed c (Cdc from link m) q = if_so (is_some (record_of setup payload (other (other x)) m.token past)) q
          where
            if_so : (b : Bool) → LandedReply p ≡ (if b then LandedReply c.at else Dropped m.token) → p ≡ c.at
            if_so true q = cc
            if_so false q = absurd (let h : LandedReply p ≡ Dropped m.token = q in cc)
        placed c (Write from link key address len) q = cc
        placed c (Llc from link m) q = cc
        placed c (Clc from s link m) q = cc

        by : (o : Option Placed) → landing slot (other x) past ≡ o → LandedReply p ≡ deliver_told setup payload (other (other x)) past o → HasLanded x past act
        by None l q = absurd (let h : LandedReply p ≡ Idle = q in cc)
        by (Some c) l q = there (landing-is slot (other x) past c l)
          where
            there : IsLanding slot (other x) past c → HasLanded x past act
            there land = which c.post refl land.on (ap (λ o. act_of x o past) (sym (ap (λ k. post_at k past) (placed c c.post q) ∙ land.known)) ∙ of)
              where
                which : (post : Post) → c.post ≡ post → is_on land.link (other x) post ≡ true → act_of x (Some post) past ≡ Some act → HasLanded x past act
                which (Write from link key address len) k on f = absurd (none-is act f)
                which (Cdc from link m) k on f = absurd (none-is act f)
                which (Clc from s link m) k on f = absurd (none-is act f)
                which (Llc from link m) k on f =
                    let own = own-message land.link (other x) from link m on in
                    subst (λ a. HasLanded x past a) (some-is (record { link = link; message = m; step = llc_step x link m past (fabric past) }) act f) (record {
                      alive = subst (λ l. is_dead l past ≡ false) (sym own.1) land.alive;
                      last = subst (λ (l : LinkId). latest l.slot past ≡ Some l) (sym own.1) land.last;
                      step_is = refl;
                      first = c;
                      rest = land.rest;
                      post_is = k ∙ ap (λ y. Llc y link m) own.0;
                      front = subst (λ l. unlanded l (other x) past ≡ c ∷ land.rest) (sym own.1) land.front;
                    })

-- it is what was under way of its kind
pub landed-under : (kind : Under → Bool) (x : Side) (past : List Entry) (act : Act) (under : Option Under) → HasLanded x past act → AreCarriedOf kind past under → kind (record { from = other x; link = act.link; message = act.message }) ≡ true → under ≡ Some (record { from = other x; link = act.link; message = act.message })
landed-under kind x past act under land carried of =
    let v : kind_of kind (land.first).post ≡ Some (record { from = other x; link = act.link; message = act.message }) = ap (λ p. kind_of kind p) land.post_is ∙ ap (λ b. if b then Some (record { from = other x; link = act.link; message = act.message }) else None) of in
    let h = landed-is kind act.link (other x) under land.first land.rest (record { from = other x; link = act.link; message = act.message }) v refl refl (ap (λ cs. kind_messages kind cs) (sym land.front) ∙ carried.carried act.link (other x) land.alive) in
    h.0
