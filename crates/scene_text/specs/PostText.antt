-- The text of a post.
-- A reader learns here how a history tells what a manager sent: who sent it, on which link or socket,
-- and what it says.
use Rattle.std.specs.Prelude.{ℕ, ◌/◌, ◌%◌, ◌==◌, ◌||◌, Bool, false, List, [], ◌∷◌, ◌++◌, codes, take, Option, Some, None, if◌then◌else◌}
use Rattle.std.specs.Fmt.{decimal}
use Rattle.byteorder.specs.Endian.{big_number}
use Rattle.smc_num.specs.declared.Side.{Side}
use Rattle.smc_num.specs.declared.LinkId.{LinkId}
use Rattle.smc_num.specs.Places.{rmb_at}
use Rattle.clc_wire.specs.declared.offer.Offer.{Offer}
use Rattle.clc_wire.specs.declared.message.ClcMessage.{ClcMessage}
use Rattle.clc_wire.specs.declared.message.ClcMessage.TheVariants.{Proposal, Accept, Confirm, Decline}
use Rattle.cdc_wire.specs.declared.CdcMessage.{CdcMessage}
use Rattle.cdc_wire.specs.declared.TheConstants.{FAILOVER_VALIDATION, SENDING_DONE, CLOSED, ABNORMAL_CLOSE}
use Rattle.llc_wire.specs.declared.LlcMessage.{LlcMessage}
use Rattle.llc_wire.specs.declared.LlcMessage.TheVariants.{ConfirmLink, AddLink, AddKeys, DeleteLink, ConfirmRkey, TestLink, DeleteRkey}
use Rattle.llc_wire.specs.declared.NewKey.{NewKey}
use Rattle.llc_wire.specs.declared.KeyToken.{KeyToken}
use Rattle.pipe_model.specs.declared.post.Post.{Post}
use Rattle.pipe_model.specs.declared.post.Post.TheVariants.{Write, Cdc, Llc, Clc}
use Rattle.scene_text.specs.Spelling.{side_text, name_text}
use Rattle.scene_text.specs.Fields.{number_field, two_numbers, flag_text, head_text, contact_text, cursor_text, with_commas, listed}

-- a link: its group, slot and incarnation
unfoldable pub link_text : LinkId → List ℕ
link_text link = decimal link.group ++ (number_field (codes ".") link.slot ++ number_field (codes ".") link.incarnation)

-- the protocol, the sender and the link of a post
unfoldable pub on_link_text : List ℕ → Side → LinkId → List ℕ
on_link_text word from link = word ++ (side_text from ++ (codes " " ++ link_text link))

-- a remote write: the key, the address, and how many bytes
unfoldable pub write_text : ℕ → ℕ → ℕ → List ℕ
write_text key address len = two_numbers (codes " key ") key (codes " at ") address ++ number_field (codes " len ") len

-- whether a flag of one bit is set among flags
abbrev pub has : ℕ → ℕ → Bool
has flag flags = flags / flag % 2 == 1

-- a word where its flag is set, with a comma where another word stands before it
abbrev pub mark_text : Bool → List ℕ → Bool → List ℕ
mark_text behind word on = if on then (if behind then codes "," ++ word else word) else []

-- the flags that are set, of validation, done, closed and abort; a hyphen for none
unfoldable pub marks_text : Bool → Bool → Bool → Bool → List ℕ
marks_text valid done closed abort =
    if valid || done || closed || abort
    then mark_text false (codes "valid") valid ++ (mark_text valid (codes "done") done ++ (mark_text (valid || done) (codes "closed") closed ++ mark_text (valid || done || closed) (codes "abort") abort))
    else codes "-"

unfoldable pub flags_text : CdcMessage → List ℕ
flags_text m = marks_text (has FAILOVER_VALIDATION m.producer) (has SENDING_DONE m.state) (has CLOSED m.state) (has ABNORMAL_CLOSE m.state)

-- a CDC message: the token, the number, both cursors, and the flags
unfoldable pub cdc_post_text : CdcMessage → List ℕ
cdc_post_text m =
    two_numbers (codes " token ") m.token (codes " number ") m.number ++ (cursor_text (codes " told ") m.told ++ (cursor_text (codes " read ") m.read ++ (codes " " ++ flags_text m)))

-- what an ADD LINK answers, if it answers
abbrev pub answer_text : Bool → Bool → List ℕ
answer_text reply rejected = if rejected then codes " reject" else flag_text (codes " reply") reply

-- a message about a link: its word, whether it is a reply, and the number of the link
unfoldable pub about_link_text : List ℕ → Bool → ℕ → List ℕ
about_link_text word reply link = head_text word reply ++ number_field (codes " ") link

-- a key for a new link, behind the one beside which it stands
abbrev pub new_key_text : NewKey → List ℕ
new_key_text k = decimal k.reference ++ number_field (codes "=") k.fresh

-- a key for the link of a slot
abbrev pub slot_key_text : ℕ → ℕ → List ℕ
slot_key_text slot key = decimal slot ++ number_field (codes "=") key

abbrev pub token_text : KeyToken → List ℕ
token_text token = slot_key_text token.number token.key

-- an RMB and its keys: first the one for the slot whose link carries the message, then so many others
unfoldable pub tokens_text : ℕ → ℕ → List KeyToken → List ℕ
tokens_text slot others [] = []
tokens_text slot others (first ∷ more) =
    number_field (codes " ") (rmb_at first.address) ++ (codes " " ++ (slot_key_text slot first.key ++ with_commas token_text (take others more)))

-- a CONFIRM RKEY with its keys
abbrev pub rkey_text : ℕ → Bool → ℕ → List KeyToken → List ℕ
rkey_text slot reply others tokens = head_text (codes " confirm rkey") reply ++ tokens_text slot others tokens

-- a CONFIRM RKEY that the link on a slot carries; one that asks for a retry says no more
abbrev pub confirm_rkey_text : ℕ → Bool → Bool → ℕ → List KeyToken → List ℕ
confirm_rkey_text slot reply retry others tokens = if retry then codes " confirm rkey retry" else rkey_text slot reply others tokens

-- an LLC message that the link on a slot carries
abbrev pub llc_post_text : ℕ → LlcMessage → List ℕ
llc_post_text slot (ConfirmLink reply mac gid qp link user most) = about_link_text (codes " confirm link") reply link
llc_post_text slot (AddLink reply rejected reason mac gid qp link mtu psn) = codes " add link" ++ (answer_text reply rejected ++ number_field (codes " ") link)
llc_post_text slot (AddKeys reply link count keys) = about_link_text (codes " add keys") reply link ++ (codes " " ++ listed new_key_text (take count keys))
llc_post_text slot (DeleteLink reply all orderly link reason) = about_link_text (codes " delete link") reply link
llc_post_text slot (ConfirmRkey reply retry negative others tokens) = confirm_rkey_text slot reply retry others tokens
llc_post_text slot (TestLink reply bytes) = head_text (codes " test link") reply ++ number_field (codes " ") (big_number 4 bytes)
llc_post_text slot (DeleteRkey reply negative count mask keys) = head_text (codes " delete rkey") reply ++ (codes " " ++ listed decimal (take count keys))

-- the sender and the socket of a CLC message
unfoldable pub on_socket_text : List (List ℕ) → Side → ℕ → List ℕ
on_socket_text names from s = codes "clc " ++ (side_text from ++ (codes " " ++ name_text names s))

-- the link that an offer is about; a hyphen for none
abbrev pub offer_link_text : Option LinkId → List ℕ
offer_link_text None = codes "-"
offer_link_text (Some link) = link_text link

-- the element that an offer lends: its key and RMB, its index and token
unfoldable pub lent_text : Offer → List ℕ
lent_text o = two_numbers (codes " key ") o.key (codes " rmb ") (rmb_at o.address) ++ two_numbers (codes " index ") o.index (codes " token ") o.token

-- an Accept or a Confirm, by its word
abbrev pub offer_post_text : List ℕ → Option LinkId → Offer → List ℕ
offer_post_text word link o = word ++ (contact_text o.first ++ (codes " " ++ (offer_link_text link ++ lent_text o)))

-- a CLC message and the link that it is about
abbrev pub clc_post_text : Option LinkId → ClcMessage → List ℕ
clc_post_text link (Proposal p) = codes " proposal"
clc_post_text link (Accept o) = offer_post_text (codes " accept") link o
clc_post_text link (Confirm o) = offer_post_text (codes " confirm") link o
clc_post_text link (Decline r) = number_field (codes " decline ") r.diagnosis ++ flag_text (codes " out of synch") r.out

-- a post, where the sockets have these names
abbrev pub post_text : List (List ℕ) → Post → List ℕ
post_text names (Write from link key address len) = on_link_text (codes "write ") from link ++ write_text key address len
post_text names (Cdc from link message) = on_link_text (codes "cdc ") from link ++ cdc_post_text message
post_text names (Llc from link message) = on_link_text (codes "llc ") from link ++ llc_post_text link.slot message
post_text names (Clc from s link message) = on_socket_text names from s ++ clc_post_text link message

-- the line of a post
abbrev pub post_line : List (List ℕ) → Post → List ℕ
post_line names post = codes "  " ++ (post_text names post ++ codes "\n")
