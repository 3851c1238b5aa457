-- The text of a reply.
-- A reader learns here the words in which an actor is told what came of its event, and each cause.
use Rattle.std.specs.Prelude.{ℕ, Bool, List, ◌++◌, codes, if◌then◌else◌}
use Rattle.std.specs.Fmt.{decimal}
use Rattle.clc_wire.specs.declared.fault.ClcFault.{ClcFault}
use Rattle.clc_wire.specs.declared.fault.ClcFault.TheVariants.{Short, BadEye, BadType, BadLength, BadVersion, BadTrailer}
use Rattle.pipe_model.specs.declared.post.PostRef.{PostRef}
use Rattle.pipe_model.specs.declared.reply.Hold.{Hold}
use Rattle.pipe_model.specs.declared.reply.Hold.TheVariants as holds
use Rattle.pipe_model.specs.declared.reply.SentKind.{SentKind}
use Rattle.pipe_model.specs.declared.reply.SentKind.TheVariants as kinds
use Rattle.pipe_model.specs.declared.reply.Lack.{Lack}
use Rattle.pipe_model.specs.declared.reply.Lack.TheVariants.{NotCapable, NoSubnet, NoServerElement, Raw, NoSlot, GroupLost, NoClientElement}
use Rattle.pipe_model.specs.declared.reply.ResetCause.{ResetCause}
use Rattle.pipe_model.specs.declared.reply.ResetCause.TheVariants.{OwnAbort, PeerAbort, NoLiveLink, Gap, BadClc, BadStep}
use Rattle.pipe_model.specs.declared.reply.Reply.{Reply}
use Rattle.pipe_model.specs.declared.reply.Reply.TheVariants.{Opened, NameUsed, NoSocket, Wrote, Full, Bytes, Empty, End, NotYet, Ended, Done, Idle, Reset, Established, FellBack, Held, Sent, Declined, Landed, Completed, Dropped, Moved, GroupEnded}
use Rattle.scene_text.specs.Spelling.{bytes_text, payload_part}
use Rattle.scene_text.specs.Fields.{number_field, two_numbers}

-- what is wrong with the bytes of a CLC message, with the place or the value where there is one
abbrev pub fault_text : ClcFault → List ℕ
fault_text Short = codes "short"
fault_text (BadEye place) = number_field (codes "bad eye ") place
fault_text (BadType value) = number_field (codes "bad type ") value
fault_text (BadLength value) = number_field (codes "bad length ") value
fault_text (BadVersion value) = number_field (codes "bad version ") value
fault_text BadTrailer = codes "bad trailer"

-- the word of a message
abbrev pub kind_text : SentKind → List ℕ
kind_text kinds.Proposal = codes "proposal"
kind_text kinds.Accept = codes "accept"
kind_text kinds.Confirm = codes "confirm"
kind_text kinds.Decline = codes "decline"
kind_text kinds.ConfirmLink = codes "confirm link"
kind_text kinds.AddLink = codes "add link"
kind_text kinds.ConfirmRkey = codes "confirm rkey"
kind_text kinds.DeleteRkey = codes "delete rkey"
kind_text kinds.TestLink = codes "test link"

-- what a request waits for
abbrev pub hold_text : Hold → List ℕ
hold_text holds.FirstContact = codes "first contact"
hold_text holds.AddLink = codes "add link"
hold_text holds.ConfirmRkey = codes "confirm rkey"
hold_text holds.DeleteRkey = codes "delete rkey"
hold_text holds.TestLink = codes "test link"
hold_text holds.OldGroup = codes "old group"

-- whether a side is capable
abbrev pub yes_text : Bool → List ℕ
yes_text capable = if capable then codes " yes" else codes " no"

-- what a side lacks for SMC-R
abbrev pub lack_text : Lack → List ℕ
lack_text (NotCapable a b) = codes "not capable" ++ (yes_text a ++ yes_text b)
lack_text NoSubnet = codes "no common subnet"
lack_text (NoServerElement elements) = number_field (codes "no server element ") elements
lack_text Raw = codes "raw"
lack_text (NoSlot links) = number_field (codes "no usable slot ") links
lack_text (GroupLost named stands) = two_numbers (codes "group lost ") named (codes " ") stands
lack_text (NoClientElement elements) = number_field (codes "no client element ") elements

-- why a connection was reset
abbrev pub cause_text : ResetCause → List ℕ
cause_text OwnAbort = codes "own abort"
cause_text PeerAbort = codes "peer abort"
cause_text (NoLiveLink group) = number_field (codes "no live link ") group
cause_text (Gap told taken) = two_numbers (codes "gap ") told (codes " ") taken
cause_text (BadClc fault) = codes "bad message " ++ fault_text fault
cause_text (BadStep kind) = codes "bad step " ++ kind_text kind

-- a post of the history: its entry, and its number there
abbrev pub place_text : PostRef → List ℕ
place_text at = decimal at.entry ++ number_field (codes ".") at.post

-- what an actor was told, where these bytes were handed out in all
abbrev pub reply_text : List ℕ → Reply → List ℕ
reply_text heard Opened = codes "opened"
reply_text heard NameUsed = codes "name used"
reply_text heard NoSocket = codes "no socket"
reply_text heard (Wrote n) = number_field (codes "wrote ") n
reply_text heard Full = codes "full"
reply_text heard (Bytes from len) = codes "data " ++ bytes_text (payload_part heard from len)
reply_text heard Empty = codes "empty"
reply_text heard End = codes "end"
reply_text heard NotYet = codes "not yet"
reply_text heard Ended = codes "ended"
reply_text heard Done = codes "done"
reply_text heard Idle = codes "idle"
reply_text heard (Reset cause) = codes "reset " ++ cause_text cause
reply_text heard Established = codes "established"
reply_text heard FellBack = codes "fell back"
reply_text heard (Held hold) = codes "held " ++ hold_text hold
reply_text heard (Sent kind) = codes "sent " ++ kind_text kind
reply_text heard (Declined lack) = codes "declined " ++ lack_text lack
reply_text heard (Landed at) = codes "landed " ++ place_text at
reply_text heard (Completed at) = codes "completed " ++ place_text at
reply_text heard (Dropped token) = number_field (codes "dropped ") token
reply_text heard (Moved from to) = two_numbers (codes "moved ") from (codes " ") to
reply_text heard (GroupEnded group) = number_field (codes "group ended ") group
