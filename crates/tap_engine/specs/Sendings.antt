-- The result of a capture that is sent through a transmit ring.
use Rattle.std.specs.Prelude.{◌≡◌, ℕ, Bool, List, [], ◌∷◌, length}
use Rattle.capture_file.specs.Capture.{frames_of}
use Rattle.capture_reading.specs.declared.whole.Reading.{Reading}
use Rattle.setup_text.specs.declared.commands.Command.TheVariants.{Send}
use Rattle.setup_text.specs.declared.jobs.Job.{Job}
use Rattle.setup_text.specs.declared.setups.Setup.{Setup}
use Rattle.tap_outside.specs.Records.{Took}
use Rattle.tap_outside.specs.Seen.{StoreSeen}
use Rattle.tap_reading.specs.Fronts.{ReadTexts}
use Rattle.tx_ring.specs.Rings.{room_of}
use Rattle.tx_ring.specs.Transmission.{transmitted_of}
use Rattle.tap_engine.specs.Commands.{Named}
use Rattle.tap_engine.specs.Given.{Texts, all_texts}
use Rattle.tap_running.specs.Captures.{capture_entry}
use Rattle.tap_running.specs.Captures.{IsCapture}
use Rattle.tap_engine.specs.Jobs.{HasJob}
use Rattle.tap_engine.specs.Names.{first_file}
use Rattle.tap_engine.specs.declared.sent_captures.Sending.{Sending}

-- the capture of CPU 0 was read: it gave these bytes and ended so, its frames are those of the
-- bytes, and they are all that its source gave, which was opened once and is closed; none where it
-- couldn't be fetched
pub record IsFirst (old new : StoreSeen) (setup : Setup) (reading : Reading) : Type 0 where
  pub bytes : List ℕ
  pub capture : IsCapture old.held (first_file setup.cpus) bytes reading.end
  pub opened : Bool
  pub given :
      Took old.sources new.sources
      (capture_entry (first_file setup.cpus) opened bytes reading.end ∷ [])
  pub frames : reading.frames ≡ frames_of 0 bytes

-- the capture of CPU 0 gave these bytes and ended so, and they are all that its source gave, which
-- was opened once and is closed; of its frames those were sent that fit into a slot, in order: with
-- `skip_bad` all of them, without it those before the first longer one
pub record IsSending (old new : StoreSeen) (setup : Setup) (sending : Sending) : Type 0 where
  pub bytes : List ℕ
  pub capture : IsCapture old.held (first_file setup.cpus) bytes sending.end
  pub opened : Bool
  pub given :
      Took old.sources new.sources
      (capture_entry (first_file setup.cpus) opened bytes sending.end ∷ [])
  pub frames : sending.frames ≡ length (frames_of 0 bytes)
  pub sent :
      sending.sent ≡ transmitted_of (room_of setup.shape) setup.skip_bad (frames_of 0 bytes)

-- it is what a `send` asks for, whose setup was read and is accepted
pub record IsSent (old new : StoreSeen) (named : Named) (setup : Setup) (sending : Sending)
    : Type 0 where
  pub command : named.command ≡ Send
  pub texts : Texts
  pub job : Job
  pub job_is : HasJob old.held named texts job
  pub setup_is : job.setup ≡ setup
  -- the store after the setup was read
  pub read : StoreSeen
  pub read_is : ReadTexts old read (all_texts named job.setup texts)
  pub sending_is : IsSending read new setup sending
