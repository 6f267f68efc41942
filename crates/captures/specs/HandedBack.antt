-- What was stored and what is handed back, as it is compared (rule G10).
use mathlib.Core.List.{List, ◌++◌, map, flatten}
use Rattle.std.specs.Prelude.{ℕ, drop}
use Rattle.framing.specs.declared.CmduHeader.{CmduHeader}
use Rattle.framing.specs.Cmdu.{header_in}
use Rattle.records.specs.declared.MacAddr.{MacAddr}
use Rattle.records.specs.Values.{address_at_lem}
use Rattle.pushing.specs.declared.Arrival.{Arrival}
use Rattle.captures.specs.declared.Frame.{Frame}
use Rattle.captures.specs.Form.{Stored}
use Rattle.captures.specs.Writing.{our_header, frame_record}
use Rattle.captures.specs.Reading.{frame_payload, arrival_of_lem}

-- what a frame says, with the bytes of its payload
pub record Seen : Type 0 where
  pub seconds : ℕ
  pub microseconds : ℕ
  pub sender : MacAddr
  pub cmdu : CmduHeader
  pub payload : List ℕ

-- Rule G4: a 1905 frame as it is stored
abbrev pub seen_of : Stored → Seen
seen_of r = record {
  seconds = r.seconds;
  microseconds = r.microseconds;
  sender = address_at_lem r.frame 6;
  cmdu = header_in (drop 14 r.frame);
  payload = drop 22 r.frame;
}

-- Rule G9: a frame that is handed back, with its payload in the file
abbrev pub seen_in : List ℕ → Frame → Seen
seen_in s f = record {
  seconds = f.seconds;
  microseconds = f.microseconds;
  sender = f.sender;
  cmdu = f.cmdu;
  payload = frame_payload s f;
}

-- what push takes: a fragment without its payload, and the payload
pub record Arrived : Type 0 where
  pub arrival : Arrival
  pub payload : List ℕ

-- Rule G5: the file that is written of some pushes, a file header and then frame after frame
abbrev pub file_of : List Arrived → List ℕ
file_of ps = our_header ++ flatten (map (λ p. frame_record p.arrival p.payload) ps)

-- Rule G9: a frame that is handed back, as it is pushed
abbrev pub arrived_in : List ℕ → Frame → Arrived
arrived_in s f = record { arrival = arrival_of_lem f; payload = frame_payload s f }
