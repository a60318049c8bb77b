-- The definitions, computed on captures and packets whose meaning is known from elsewhere: a check
-- of the definitions themselves, which no other proof rests on.
use Rattle.std.proofs.Common.{◌≡◌, ℕ, List, [], ◌∷◌, Some, None, Option, refl, take}
use Rattle.frame_view.specs.declared.frames.Frame.{Frame}
use Rattle.capture_file.specs.declared.error.CaptureError.{CaptureError}
use Rattle.capture_file.specs.declared.error.CaptureError.TheVariants.{BadMagic, BadVersion, BadLink, BadLength, Truncated}
use Rattle.pcapng_blocks.specs.Numbers.{number_at}
use Rattle.capture_file.specs.Pcap.{frames_of, damage_of, end_of, stop_of, header_of, records_within, records_in, begins_whole}
use Rattle.capture_file.specs.Pcap.{begins_oversized, frame_of_record}
use Rattle.capture_file.specs.Output.{output_of, record_text, output_header, four_bytes}

-- what a capture says
record Means (bytes : List ℕ) (frames : List Frame) (stop : ℕ) (damage end : Option CaptureError) : Type 0 where
  frames_are : frames_of 3 bytes ≡ frames
  stop_is : stop_of bytes ≡ stop
  damage_is : damage_of bytes ≡ damage
  end_is : end_of bytes ≡ end

-- three records in microseconds, the lowest byte first
little_micro : List ℕ
little_micro = 212 ∷ 195 ∷ 178 ∷ 161 ∷ 2 ∷ 0 ∷ 4 ∷ 0 ∷ 0 ∷ 0 ∷ 0 ∷ 0 ∷ 0 ∷ 0 ∷ 0 ∷ 0 ∷ 255 ∷ 255 ∷ 0 ∷ 0 ∷ 1 ∷ 0 ∷ 0 ∷ 0 ∷ 1 ∷ 0
    ∷ 0 ∷ 0 ∷ 2 ∷ 0 ∷ 0 ∷ 0 ∷ 14 ∷ 0 ∷ 0 ∷ 0 ∷ 60 ∷ 0 ∷ 0 ∷ 0 ∷ 255 ∷ 255 ∷ 255 ∷ 255 ∷ 255 ∷ 255 ∷ 2 ∷ 0 ∷ 0 ∷ 0 ∷ 0 ∷ 1 ∷ 8
    ∷ 6 ∷ 2 ∷ 0 ∷ 0 ∷ 0 ∷ 63 ∷ 66 ∷ 15 ∷ 0 ∷ 3 ∷ 0 ∷ 0 ∷ 0 ∷ 3 ∷ 0 ∷ 0 ∷ 0 ∷ 9 ∷ 8 ∷ 7 ∷ 255 ∷ 255 ∷ 255 ∷ 255 ∷ 64 ∷ 66 ∷ 15
    ∷ 0 ∷ 16 ∷ 0 ∷ 0 ∷ 0 ∷ 4 ∷ 0 ∷ 0 ∷ 0 ∷ 1 ∷ 2 ∷ 3 ∷ 4 ∷ 5 ∷ 6 ∷ 7 ∷ 8 ∷ 9 ∷ 10 ∷ 11 ∷ 12 ∷ 13 ∷ 14 ∷ 15 ∷ 16 ∷ []

-- the same, the highest byte first
big_micro : List ℕ
big_micro = 161 ∷ 178 ∷ 195 ∷ 212 ∷ 0 ∷ 2 ∷ 0 ∷ 4 ∷ 0 ∷ 0 ∷ 0 ∷ 0 ∷ 0 ∷ 0 ∷ 0 ∷ 0 ∷ 0 ∷ 0 ∷ 255 ∷ 255 ∷ 0 ∷ 0 ∷ 0 ∷ 1 ∷ 0 ∷ 0
    ∷ 0 ∷ 1 ∷ 0 ∷ 0 ∷ 0 ∷ 2 ∷ 0 ∷ 0 ∷ 0 ∷ 14 ∷ 0 ∷ 0 ∷ 0 ∷ 60 ∷ 255 ∷ 255 ∷ 255 ∷ 255 ∷ 255 ∷ 255 ∷ 2 ∷ 0 ∷ 0 ∷ 0 ∷ 0 ∷ 1 ∷ 8
    ∷ 6 ∷ 0 ∷ 0 ∷ 0 ∷ 2 ∷ 0 ∷ 15 ∷ 66 ∷ 63 ∷ 0 ∷ 0 ∷ 0 ∷ 3 ∷ 0 ∷ 0 ∷ 0 ∷ 3 ∷ 9 ∷ 8 ∷ 7 ∷ 255 ∷ 255 ∷ 255 ∷ 255 ∷ 0 ∷ 15 ∷ 66
    ∷ 64 ∷ 0 ∷ 0 ∷ 0 ∷ 16 ∷ 0 ∷ 0 ∷ 0 ∷ 4 ∷ 1 ∷ 2 ∷ 3 ∷ 4 ∷ 5 ∷ 6 ∷ 7 ∷ 8 ∷ 9 ∷ 10 ∷ 11 ∷ 12 ∷ 13 ∷ 14 ∷ 15 ∷ 16 ∷ []

-- the same in nanoseconds, the lowest byte first
little_nano : List ℕ
little_nano = 77 ∷ 60 ∷ 178 ∷ 161 ∷ 2 ∷ 0 ∷ 4 ∷ 0 ∷ 0 ∷ 0 ∷ 0 ∷ 0 ∷ 0 ∷ 0 ∷ 0 ∷ 0 ∷ 255 ∷ 255 ∷ 0 ∷ 0 ∷ 1 ∷ 0 ∷ 0 ∷ 0 ∷ 1 ∷ 0
    ∷ 0 ∷ 0 ∷ 208 ∷ 7 ∷ 0 ∷ 0 ∷ 14 ∷ 0 ∷ 0 ∷ 0 ∷ 60 ∷ 0 ∷ 0 ∷ 0 ∷ 255 ∷ 255 ∷ 255 ∷ 255 ∷ 255 ∷ 255 ∷ 2 ∷ 0 ∷ 0 ∷ 0 ∷ 0 ∷ 1 ∷ 8
    ∷ 6 ∷ 2 ∷ 0 ∷ 0 ∷ 0 ∷ 24 ∷ 198 ∷ 154 ∷ 59 ∷ 3 ∷ 0 ∷ 0 ∷ 0 ∷ 3 ∷ 0 ∷ 0 ∷ 0 ∷ 9 ∷ 8 ∷ 7 ∷ 255 ∷ 255 ∷ 255 ∷ 255 ∷ 0 ∷ 47 ∷ 104
    ∷ 89 ∷ 16 ∷ 0 ∷ 0 ∷ 0 ∷ 4 ∷ 0 ∷ 0 ∷ 0 ∷ 1 ∷ 2 ∷ 3 ∷ 4 ∷ 5 ∷ 6 ∷ 7 ∷ 8 ∷ 9 ∷ 10 ∷ 11 ∷ 12 ∷ 13 ∷ 14 ∷ 15 ∷ 16 ∷ []

-- the same in nanoseconds, the highest byte first
big_nano : List ℕ
big_nano = 161 ∷ 178 ∷ 60 ∷ 77 ∷ 0 ∷ 2 ∷ 0 ∷ 4 ∷ 0 ∷ 0 ∷ 0 ∷ 0 ∷ 0 ∷ 0 ∷ 0 ∷ 0 ∷ 0 ∷ 0 ∷ 255 ∷ 255 ∷ 0 ∷ 0 ∷ 0 ∷ 1 ∷ 0 ∷ 0 ∷ 0
    ∷ 1 ∷ 0 ∷ 0 ∷ 7 ∷ 208 ∷ 0 ∷ 0 ∷ 0 ∷ 14 ∷ 0 ∷ 0 ∷ 0 ∷ 60 ∷ 255 ∷ 255 ∷ 255 ∷ 255 ∷ 255 ∷ 255 ∷ 2 ∷ 0 ∷ 0 ∷ 0 ∷ 0 ∷ 1 ∷ 8 ∷ 6
    ∷ 0 ∷ 0 ∷ 0 ∷ 2 ∷ 59 ∷ 154 ∷ 198 ∷ 24 ∷ 0 ∷ 0 ∷ 0 ∷ 3 ∷ 0 ∷ 0 ∷ 0 ∷ 3 ∷ 9 ∷ 8 ∷ 7 ∷ 255 ∷ 255 ∷ 255 ∷ 255 ∷ 89 ∷ 104 ∷ 47
    ∷ 0 ∷ 0 ∷ 0 ∷ 0 ∷ 16 ∷ 0 ∷ 0 ∷ 0 ∷ 4 ∷ 1 ∷ 2 ∷ 3 ∷ 4 ∷ 5 ∷ 6 ∷ 7 ∷ 8 ∷ 9 ∷ 10 ∷ 11 ∷ 12 ∷ 13 ∷ 14 ∷ 15 ∷ 16 ∷ []

-- three frames, the second a runt, the third with its fraction clamped and more captured than its
-- length on the wire
means-little_micro : Means little_micro
    (record {
      cpu = 3;
      index = 0;
      sec = 1;
      nsec = 2000;
      wire = 60;
      bytes = 255 ∷ 255 ∷ 255 ∷ 255 ∷ 255 ∷ 255 ∷ 2 ∷ 0 ∷ 0 ∷ 0 ∷ 0 ∷ 1 ∷ 8 ∷ 6 ∷ [];
      tag = None;
    }
    ∷ record { cpu = 3; index = 1; sec = 2; nsec = 999999000; wire = 3; bytes = 9 ∷ 8 ∷ 7 ∷ []; tag = None }
    ∷ record {
      cpu = 3;
      index = 2;
      sec = 4294967295;
      nsec = 999999999;
      wire = 16;
      bytes = 1 ∷ 2 ∷ 3 ∷ 4 ∷ 5 ∷ 6 ∷ 7 ∷ 8 ∷ 9 ∷ 10 ∷ 11 ∷ 12 ∷ 13 ∷ 14 ∷ 15 ∷ 16 ∷ [];
      tag = None;
    } ∷ []) 105 None None
unfolding frames_of damage_of end_of stop_of header_of number_at records_within records_in begins_whole begins_oversized
    frame_of_record little_micro
means-little_micro = record { frames_are = refl; stop_is = refl; damage_is = refl; end_is = refl }

-- three frames, the second a runt, the third with its fraction clamped and more captured than its
-- length on the wire
means-big_micro : Means big_micro
    (record {
      cpu = 3;
      index = 0;
      sec = 1;
      nsec = 2000;
      wire = 60;
      bytes = 255 ∷ 255 ∷ 255 ∷ 255 ∷ 255 ∷ 255 ∷ 2 ∷ 0 ∷ 0 ∷ 0 ∷ 0 ∷ 1 ∷ 8 ∷ 6 ∷ [];
      tag = None;
    }
    ∷ record { cpu = 3; index = 1; sec = 2; nsec = 999999000; wire = 3; bytes = 9 ∷ 8 ∷ 7 ∷ []; tag = None }
    ∷ record {
      cpu = 3;
      index = 2;
      sec = 4294967295;
      nsec = 999999999;
      wire = 16;
      bytes = 1 ∷ 2 ∷ 3 ∷ 4 ∷ 5 ∷ 6 ∷ 7 ∷ 8 ∷ 9 ∷ 10 ∷ 11 ∷ 12 ∷ 13 ∷ 14 ∷ 15 ∷ 16 ∷ [];
      tag = None;
    } ∷ []) 105 None None
unfolding frames_of damage_of end_of stop_of header_of number_at records_within records_in begins_whole begins_oversized
    frame_of_record big_micro
means-big_micro = record { frames_are = refl; stop_is = refl; damage_is = refl; end_is = refl }

-- three frames, the second a runt, the third with its fraction clamped and more captured than its
-- length on the wire
means-little_nano : Means little_nano
    (record {
      cpu = 3;
      index = 0;
      sec = 1;
      nsec = 2000;
      wire = 60;
      bytes = 255 ∷ 255 ∷ 255 ∷ 255 ∷ 255 ∷ 255 ∷ 2 ∷ 0 ∷ 0 ∷ 0 ∷ 0 ∷ 1 ∷ 8 ∷ 6 ∷ [];
      tag = None;
    }
    ∷ record { cpu = 3; index = 1; sec = 2; nsec = 999999000; wire = 3; bytes = 9 ∷ 8 ∷ 7 ∷ []; tag = None }
    ∷ record {
      cpu = 3;
      index = 2;
      sec = 4294967295;
      nsec = 999999999;
      wire = 16;
      bytes = 1 ∷ 2 ∷ 3 ∷ 4 ∷ 5 ∷ 6 ∷ 7 ∷ 8 ∷ 9 ∷ 10 ∷ 11 ∷ 12 ∷ 13 ∷ 14 ∷ 15 ∷ 16 ∷ [];
      tag = None;
    } ∷ []) 105 None None
unfolding frames_of damage_of end_of stop_of header_of number_at records_within records_in begins_whole begins_oversized
    frame_of_record little_nano
means-little_nano = record { frames_are = refl; stop_is = refl; damage_is = refl; end_is = refl }

-- three frames, the second a runt, the third with its fraction clamped and more captured than its
-- length on the wire
means-big_nano : Means big_nano
    (record {
      cpu = 3;
      index = 0;
      sec = 1;
      nsec = 2000;
      wire = 60;
      bytes = 255 ∷ 255 ∷ 255 ∷ 255 ∷ 255 ∷ 255 ∷ 2 ∷ 0 ∷ 0 ∷ 0 ∷ 0 ∷ 1 ∷ 8 ∷ 6 ∷ [];
      tag = None;
    }
    ∷ record { cpu = 3; index = 1; sec = 2; nsec = 999999000; wire = 3; bytes = 9 ∷ 8 ∷ 7 ∷ []; tag = None }
    ∷ record {
      cpu = 3;
      index = 2;
      sec = 4294967295;
      nsec = 999999999;
      wire = 16;
      bytes = 1 ∷ 2 ∷ 3 ∷ 4 ∷ 5 ∷ 6 ∷ 7 ∷ 8 ∷ 9 ∷ 10 ∷ 11 ∷ 12 ∷ 13 ∷ 14 ∷ 15 ∷ 16 ∷ [];
      tag = None;
    } ∷ []) 105 None None
unfolding frames_of damage_of end_of stop_of header_of number_at records_within records_in begins_whole begins_oversized
    frame_of_record big_nano
means-big_nano = record { frames_are = refl; stop_is = refl; damage_is = refl; end_is = refl }

-- the first 0 bytes
cut_to_nothing : Means (take 0 little_nano) [] 0 None (Some (Truncated 0))
unfolding frames_of damage_of end_of stop_of header_of number_at records_within records_in begins_whole begins_oversized
    frame_of_record little_nano
cut_to_nothing = record { frames_are = refl; stop_is = refl; damage_is = refl; end_is = refl }

-- the first 23 bytes
cut_in_the_header : Means (take 23 little_nano) [] 0 None (Some (Truncated 0))
unfolding frames_of damage_of end_of stop_of header_of number_at records_within records_in begins_whole begins_oversized
    frame_of_record little_nano
cut_in_the_header = record { frames_are = refl; stop_is = refl; damage_is = refl; end_is = refl }

-- the first 24 bytes
cut_behind_the_header : Means (take 24 little_nano) [] 24 None None
unfolding frames_of damage_of end_of stop_of header_of number_at records_within records_in begins_whole begins_oversized
    frame_of_record little_nano
cut_behind_the_header = record { frames_are = refl; stop_is = refl; damage_is = refl; end_is = refl }

-- the first 53 bytes
cut_in_a_record : Means (take 53 little_nano) [] 24 None (Some (Truncated 24))
unfolding frames_of damage_of end_of stop_of header_of number_at records_within records_in begins_whole begins_oversized
    frame_of_record little_nano
cut_in_a_record = record { frames_are = refl; stop_is = refl; damage_is = refl; end_is = refl }

-- the first 54 bytes
cut_behind_a_record : Means (take 54 little_nano)
    (record {
      cpu = 3;
      index = 0;
      sec = 1;
      nsec = 2000;
      wire = 60;
      bytes = 255 ∷ 255 ∷ 255 ∷ 255 ∷ 255 ∷ 255 ∷ 2 ∷ 0 ∷ 0 ∷ 0 ∷ 0 ∷ 1 ∷ 8 ∷ 6 ∷ [];
      tag = None;
    } ∷ []) 54 None None
unfolding frames_of damage_of end_of stop_of header_of number_at records_within records_in begins_whole begins_oversized
    frame_of_record little_nano
cut_behind_a_record = record { frames_are = refl; stop_is = refl; damage_is = refl; end_is = refl }

-- the first 80 bytes
cut_in_a_later_record : Means (take 80 little_nano)
    (record {
      cpu = 3;
      index = 0;
      sec = 1;
      nsec = 2000;
      wire = 60;
      bytes = 255 ∷ 255 ∷ 255 ∷ 255 ∷ 255 ∷ 255 ∷ 2 ∷ 0 ∷ 0 ∷ 0 ∷ 0 ∷ 1 ∷ 8 ∷ 6 ∷ [];
      tag = None;
    }
    ∷ record { cpu = 3; index = 1; sec = 2; nsec = 999999000; wire = 3; bytes = 9 ∷ 8 ∷ 7 ∷ []; tag = None } ∷ []) 73 None
    (Some (Truncated 73))
unfolding frames_of damage_of end_of stop_of header_of number_at records_within records_in begins_whole begins_oversized
    frame_of_record little_nano
cut_in_a_later_record = record { frames_are = refl; stop_is = refl; damage_is = refl; end_is = refl }

-- the magic of another format
next_generation : List ℕ
next_generation = 10 ∷ 13 ∷ 13 ∷ 10 ∷ 2 ∷ 0 ∷ 4 ∷ 0 ∷ 0 ∷ 0 ∷ 0 ∷ 0 ∷ 0 ∷ 0 ∷ 0 ∷ 0 ∷ 255 ∷ 255 ∷ 0 ∷ 0 ∷ 1 ∷ 0 ∷ 0 ∷ 0 ∷ 1 ∷ 0
    ∷ 0 ∷ 0 ∷ 208 ∷ 7 ∷ 0 ∷ 0 ∷ 14 ∷ 0 ∷ 0 ∷ 0 ∷ 60 ∷ 0 ∷ 0 ∷ 0 ∷ 255 ∷ 255 ∷ 255 ∷ 255 ∷ 255 ∷ 255 ∷ 2 ∷ 0 ∷ 0 ∷ 0 ∷ 0 ∷ 1 ∷ 8
    ∷ 6 ∷ 2 ∷ 0 ∷ 0 ∷ 0 ∷ 24 ∷ 198 ∷ 154 ∷ 59 ∷ 3 ∷ 0 ∷ 0 ∷ 0 ∷ 3 ∷ 0 ∷ 0 ∷ 0 ∷ 9 ∷ 8 ∷ 7 ∷ 255 ∷ 255 ∷ 255 ∷ 255 ∷ 0 ∷ 47 ∷ 104
    ∷ 89 ∷ 16 ∷ 0 ∷ 0 ∷ 0 ∷ 4 ∷ 0 ∷ 0 ∷ 0 ∷ 1 ∷ 2 ∷ 3 ∷ 4 ∷ 5 ∷ 6 ∷ 7 ∷ 8 ∷ 9 ∷ 10 ∷ 11 ∷ 12 ∷ 13 ∷ 14 ∷ 15 ∷ 16 ∷ []

-- what is wrong with it
means-next_generation : Means next_generation [] 0 (Some BadMagic) (Some BadMagic)
unfolding frames_of damage_of end_of stop_of header_of number_at records_within records_in begins_whole begins_oversized
    frame_of_record next_generation
means-next_generation = record { frames_are = refl; stop_is = refl; damage_is = refl; end_is = refl }

-- version 2.3, and another link type
other_version : List ℕ
other_version = 77 ∷ 60 ∷ 178 ∷ 161 ∷ 2 ∷ 0 ∷ 3 ∷ 0 ∷ 0 ∷ 0 ∷ 0 ∷ 0 ∷ 0 ∷ 0 ∷ 0 ∷ 0 ∷ 255 ∷ 255 ∷ 0 ∷ 0 ∷ 101 ∷ 0 ∷ 0 ∷ 0 ∷ 1
    ∷ 0 ∷ 0 ∷ 0 ∷ 208 ∷ 7 ∷ 0 ∷ 0 ∷ 14 ∷ 0 ∷ 0 ∷ 0 ∷ 60 ∷ 0 ∷ 0 ∷ 0 ∷ 255 ∷ 255 ∷ 255 ∷ 255 ∷ 255 ∷ 255 ∷ 2 ∷ 0 ∷ 0 ∷ 0 ∷ 0 ∷ 1
    ∷ 8 ∷ 6 ∷ 2 ∷ 0 ∷ 0 ∷ 0 ∷ 24 ∷ 198 ∷ 154 ∷ 59 ∷ 3 ∷ 0 ∷ 0 ∷ 0 ∷ 3 ∷ 0 ∷ 0 ∷ 0 ∷ 9 ∷ 8 ∷ 7 ∷ 255 ∷ 255 ∷ 255 ∷ 255 ∷ 0 ∷ 47
    ∷ 104 ∷ 89 ∷ 16 ∷ 0 ∷ 0 ∷ 0 ∷ 4 ∷ 0 ∷ 0 ∷ 0 ∷ 1 ∷ 2 ∷ 3 ∷ 4 ∷ 5 ∷ 6 ∷ 7 ∷ 8 ∷ 9 ∷ 10 ∷ 11 ∷ 12 ∷ 13 ∷ 14 ∷ 15 ∷ 16 ∷ []

-- what is wrong with it
means-other_version : Means other_version [] 0 (Some BadVersion) (Some BadVersion)
unfolding frames_of damage_of end_of stop_of header_of number_at records_within records_in begins_whole begins_oversized
    frame_of_record other_version
means-other_version = record { frames_are = refl; stop_is = refl; damage_is = refl; end_is = refl }

-- another link type
other_link : List ℕ
other_link = 77 ∷ 60 ∷ 178 ∷ 161 ∷ 2 ∷ 0 ∷ 4 ∷ 0 ∷ 0 ∷ 0 ∷ 0 ∷ 0 ∷ 0 ∷ 0 ∷ 0 ∷ 0 ∷ 255 ∷ 255 ∷ 0 ∷ 0 ∷ 101 ∷ 0 ∷ 1 ∷ 0 ∷ 1 ∷ 0
    ∷ 0 ∷ 0 ∷ 208 ∷ 7 ∷ 0 ∷ 0 ∷ 14 ∷ 0 ∷ 0 ∷ 0 ∷ 60 ∷ 0 ∷ 0 ∷ 0 ∷ 255 ∷ 255 ∷ 255 ∷ 255 ∷ 255 ∷ 255 ∷ 2 ∷ 0 ∷ 0 ∷ 0 ∷ 0 ∷ 1 ∷ 8
    ∷ 6 ∷ 2 ∷ 0 ∷ 0 ∷ 0 ∷ 24 ∷ 198 ∷ 154 ∷ 59 ∷ 3 ∷ 0 ∷ 0 ∷ 0 ∷ 3 ∷ 0 ∷ 0 ∷ 0 ∷ 9 ∷ 8 ∷ 7 ∷ 255 ∷ 255 ∷ 255 ∷ 255 ∷ 0 ∷ 47 ∷ 104
    ∷ 89 ∷ 16 ∷ 0 ∷ 0 ∷ 0 ∷ 4 ∷ 0 ∷ 0 ∷ 0 ∷ 1 ∷ 2 ∷ 3 ∷ 4 ∷ 5 ∷ 6 ∷ 7 ∷ 8 ∷ 9 ∷ 10 ∷ 11 ∷ 12 ∷ 13 ∷ 14 ∷ 15 ∷ 16 ∷ []

-- what is wrong with it
means-other_link : Means other_link [] 0 (Some (BadLink 65637)) (Some (BadLink 65637))
unfolding frames_of damage_of end_of stop_of header_of number_at records_within records_in begins_whole begins_oversized
    frame_of_record other_link
means-other_link = record { frames_are = refl; stop_is = refl; damage_is = refl; end_is = refl }

-- Ethernet with further flags in the link field
link_flags : List ℕ
link_flags = 77 ∷ 60 ∷ 178 ∷ 161 ∷ 2 ∷ 0 ∷ 4 ∷ 0 ∷ 0 ∷ 0 ∷ 0 ∷ 0 ∷ 0 ∷ 0 ∷ 0 ∷ 0 ∷ 255 ∷ 255 ∷ 0 ∷ 0 ∷ 1 ∷ 0 ∷ 0 ∷ 240 ∷ 1 ∷ 0
    ∷ 0 ∷ 0 ∷ 208 ∷ 7 ∷ 0 ∷ 0 ∷ 14 ∷ 0 ∷ 0 ∷ 0 ∷ 60 ∷ 0 ∷ 0 ∷ 0 ∷ 255 ∷ 255 ∷ 255 ∷ 255 ∷ 255 ∷ 255 ∷ 2 ∷ 0 ∷ 0 ∷ 0 ∷ 0 ∷ 1 ∷ 8
    ∷ 6 ∷ 2 ∷ 0 ∷ 0 ∷ 0 ∷ 24 ∷ 198 ∷ 154 ∷ 59 ∷ 3 ∷ 0 ∷ 0 ∷ 0 ∷ 3 ∷ 0 ∷ 0 ∷ 0 ∷ 9 ∷ 8 ∷ 7 ∷ 255 ∷ 255 ∷ 255 ∷ 255 ∷ 0 ∷ 47 ∷ 104
    ∷ 89 ∷ 16 ∷ 0 ∷ 0 ∷ 0 ∷ 4 ∷ 0 ∷ 0 ∷ 0 ∷ 1 ∷ 2 ∷ 3 ∷ 4 ∷ 5 ∷ 6 ∷ 7 ∷ 8 ∷ 9 ∷ 10 ∷ 11 ∷ 12 ∷ 13 ∷ 14 ∷ 15 ∷ 16 ∷ []

-- nothing is wrong with it
means-link_flags : Means link_flags
    (record {
      cpu = 3;
      index = 0;
      sec = 1;
      nsec = 2000;
      wire = 60;
      bytes = 255 ∷ 255 ∷ 255 ∷ 255 ∷ 255 ∷ 255 ∷ 2 ∷ 0 ∷ 0 ∷ 0 ∷ 0 ∷ 1 ∷ 8 ∷ 6 ∷ [];
      tag = None;
    }
    ∷ record { cpu = 3; index = 1; sec = 2; nsec = 999999000; wire = 3; bytes = 9 ∷ 8 ∷ 7 ∷ []; tag = None }
    ∷ record {
      cpu = 3;
      index = 2;
      sec = 4294967295;
      nsec = 999999999;
      wire = 16;
      bytes = 1 ∷ 2 ∷ 3 ∷ 4 ∷ 5 ∷ 6 ∷ 7 ∷ 8 ∷ 9 ∷ 10 ∷ 11 ∷ 12 ∷ 13 ∷ 14 ∷ 15 ∷ 16 ∷ [];
      tag = None;
    } ∷ []) 105 None None
unfolding frames_of damage_of end_of stop_of header_of number_at records_within records_in begins_whole begins_oversized
    frame_of_record link_flags
means-link_flags = record { frames_are = refl; stop_is = refl; damage_is = refl; end_is = refl }

-- a second record of 262,145 bytes
oversized : List ℕ
oversized = 77 ∷ 60 ∷ 178 ∷ 161 ∷ 2 ∷ 0 ∷ 4 ∷ 0 ∷ 0 ∷ 0 ∷ 0 ∷ 0 ∷ 0 ∷ 0 ∷ 0 ∷ 0 ∷ 255 ∷ 255 ∷ 0 ∷ 0 ∷ 1 ∷ 0 ∷ 0 ∷ 0 ∷ 1 ∷ 0 ∷ 0
    ∷ 0 ∷ 208 ∷ 7 ∷ 0 ∷ 0 ∷ 14 ∷ 0 ∷ 0 ∷ 0 ∷ 60 ∷ 0 ∷ 0 ∷ 0 ∷ 255 ∷ 255 ∷ 255 ∷ 255 ∷ 255 ∷ 255 ∷ 2 ∷ 0 ∷ 0 ∷ 0 ∷ 0 ∷ 1 ∷ 8 ∷ 6
    ∷ 2 ∷ 0 ∷ 0 ∷ 0 ∷ 24 ∷ 198 ∷ 154 ∷ 59 ∷ 1 ∷ 0 ∷ 4 ∷ 0 ∷ 3 ∷ 0 ∷ 0 ∷ 0 ∷ 9 ∷ 8 ∷ 7 ∷ 255 ∷ 255 ∷ 255 ∷ 255 ∷ 0 ∷ 47 ∷ 104
    ∷ 89 ∷ 16 ∷ 0 ∷ 0 ∷ 0 ∷ 4 ∷ 0 ∷ 0 ∷ 0 ∷ 1 ∷ 2 ∷ 3 ∷ 4 ∷ 5 ∷ 6 ∷ 7 ∷ 8 ∷ 9 ∷ 10 ∷ 11 ∷ 12 ∷ 13 ∷ 14 ∷ 15 ∷ 16 ∷ []

-- what is wrong with it
means-oversized : Means oversized
    (record {
      cpu = 3;
      index = 0;
      sec = 1;
      nsec = 2000;
      wire = 60;
      bytes = 255 ∷ 255 ∷ 255 ∷ 255 ∷ 255 ∷ 255 ∷ 2 ∷ 0 ∷ 0 ∷ 0 ∷ 0 ∷ 1 ∷ 8 ∷ 6 ∷ [];
      tag = None;
    } ∷ []) 54 (Some (BadLength 54))
    (Some (BadLength 54))
unfolding frames_of damage_of end_of stop_of header_of number_at records_within records_in begins_whole begins_oversized
    frame_of_record oversized
means-oversized = record { frames_are = refl; stop_is = refl; damage_is = refl; end_is = refl }

-- a second record of 262,144 bytes
largest : List ℕ
largest = 77 ∷ 60 ∷ 178 ∷ 161 ∷ 2 ∷ 0 ∷ 4 ∷ 0 ∷ 0 ∷ 0 ∷ 0 ∷ 0 ∷ 0 ∷ 0 ∷ 0 ∷ 0 ∷ 255 ∷ 255 ∷ 0 ∷ 0 ∷ 1 ∷ 0 ∷ 0 ∷ 0 ∷ 1 ∷ 0 ∷ 0
    ∷ 0 ∷ 208 ∷ 7 ∷ 0 ∷ 0 ∷ 14 ∷ 0 ∷ 0 ∷ 0 ∷ 60 ∷ 0 ∷ 0 ∷ 0 ∷ 255 ∷ 255 ∷ 255 ∷ 255 ∷ 255 ∷ 255 ∷ 2 ∷ 0 ∷ 0 ∷ 0 ∷ 0 ∷ 1 ∷ 8 ∷ 6
    ∷ 2 ∷ 0 ∷ 0 ∷ 0 ∷ 24 ∷ 198 ∷ 154 ∷ 59 ∷ 0 ∷ 0 ∷ 4 ∷ 0 ∷ 3 ∷ 0 ∷ 0 ∷ 0 ∷ 9 ∷ 8 ∷ 7 ∷ 255 ∷ 255 ∷ 255 ∷ 255 ∷ 0 ∷ 47 ∷ 104
    ∷ 89 ∷ 16 ∷ 0 ∷ 0 ∷ 0 ∷ 4 ∷ 0 ∷ 0 ∷ 0 ∷ 1 ∷ 2 ∷ 3 ∷ 4 ∷ 5 ∷ 6 ∷ 7 ∷ 8 ∷ 9 ∷ 10 ∷ 11 ∷ 12 ∷ 13 ∷ 14 ∷ 15 ∷ 16 ∷ []

-- nothing is wrong with it
means-largest : Means largest
    (record {
      cpu = 3;
      index = 0;
      sec = 1;
      nsec = 2000;
      wire = 60;
      bytes = 255 ∷ 255 ∷ 255 ∷ 255 ∷ 255 ∷ 255 ∷ 2 ∷ 0 ∷ 0 ∷ 0 ∷ 0 ∷ 1 ∷ 8 ∷ 6 ∷ [];
      tag = None;
    } ∷ []) 54 None
    (Some (Truncated 54))
unfolding frames_of damage_of end_of stop_of header_of number_at records_within records_in begins_whole begins_oversized
    frame_of_record largest
means-largest = record { frames_are = refl; stop_is = refl; damage_is = refl; end_is = refl }

-- one broadcast frame
writes_one : output_of (record {
  sec = 1;
  nsec = 2000;
  wire = 14;
  rxhash = 0;
  protocol = 0;
  pkttype = 0;
  addr = [];
  bytes = 255 ∷ 255 ∷ 255 ∷ 255 ∷ 255 ∷ 255 ∷ 2 ∷ 0 ∷ 0 ∷ 0 ∷ 0 ∷ 1 ∷ 8 ∷ 6 ∷ [];
  tag = None;
} ∷ []) ≡ 77 ∷ 60 ∷ 178 ∷ 161 ∷ 2
    ∷ 0 ∷ 4 ∷ 0 ∷ 0 ∷ 0 ∷ 0 ∷ 0 ∷ 0 ∷ 0 ∷ 0 ∷ 0 ∷ 0 ∷ 0 ∷ 4 ∷ 0 ∷ 1 ∷ 0 ∷ 0 ∷ 0 ∷ 1 ∷ 0 ∷ 0 ∷ 0 ∷ 208 ∷ 7 ∷ 0 ∷ 0 ∷ 14 ∷ 0 ∷ 0
    ∷ 0 ∷ 14 ∷ 0 ∷ 0 ∷ 0 ∷ 255 ∷ 255 ∷ 255 ∷ 255 ∷ 255 ∷ 255 ∷ 2 ∷ 0 ∷ 0 ∷ 0 ∷ 0 ∷ 1 ∷ 8 ∷ 6 ∷ []
unfolding output_of record_text output_header four_bytes
writes_one = refl

-- a tag that can't be put back counts only in the original length
writes_short_tagged : output_of
    (record {
      sec = 1;
      nsec = 2;
      wire = 60;
      rxhash = 0;
      protocol = 0;
      pkttype = 0;
      addr = [];
      bytes = 255 ∷ 255 ∷ 255 ∷ 255 ∷ 255 ∷ 255 ∷ 2 ∷ 0 ∷ [];
      tag = Some (record { tpid = 33024; tci = 291 });
    } ∷ []) ≡ 77 ∷ 60
    ∷ 178 ∷ 161 ∷ 2 ∷ 0 ∷ 4 ∷ 0 ∷ 0 ∷ 0 ∷ 0 ∷ 0 ∷ 0 ∷ 0 ∷ 0 ∷ 0 ∷ 0 ∷ 0 ∷ 4 ∷ 0 ∷ 1 ∷ 0 ∷ 0 ∷ 0 ∷ 1 ∷ 0 ∷ 0 ∷ 0 ∷ 2 ∷ 0 ∷ 0 ∷ 0
    ∷ 8 ∷ 0 ∷ 0 ∷ 0 ∷ 64 ∷ 0 ∷ 0 ∷ 0 ∷ 255 ∷ 255 ∷ 255 ∷ 255 ∷ 255 ∷ 255 ∷ 2 ∷ 0 ∷ []
unfolding output_of record_text output_header four_bytes
writes_short_tagged = refl

-- a tag is put back after the addresses
writes_tagged : output_of
    (record {
      sec = 1;
      nsec = 2;
      wire = 60;
      rxhash = 0;
      protocol = 0;
      pkttype = 0;
      addr = [];
      bytes = 255 ∷ 255 ∷ 255 ∷ 255 ∷ 255 ∷ 255 ∷ 2 ∷ 0 ∷ 0 ∷ 0 ∷ 0 ∷ 1 ∷ 8 ∷ 6 ∷ [];
      tag =
          Some (record { tpid = 33024; tci = 291 });
    } ∷ []) ≡ 77 ∷ 60 ∷ 178 ∷ 161 ∷ 2 ∷ 0 ∷ 4 ∷ 0 ∷ 0 ∷ 0 ∷ 0 ∷ 0 ∷ 0 ∷ 0 ∷ 0 ∷ 0 ∷ 0
    ∷ 0 ∷ 4 ∷ 0 ∷ 1 ∷ 0 ∷ 0 ∷ 0 ∷ 1 ∷ 0 ∷ 0 ∷ 0 ∷ 2 ∷ 0 ∷ 0 ∷ 0 ∷ 18 ∷ 0 ∷ 0 ∷ 0 ∷ 64 ∷ 0 ∷ 0 ∷ 0 ∷ 255 ∷ 255 ∷ 255 ∷ 255 ∷ 255
    ∷ 255 ∷ 2 ∷ 0 ∷ 0 ∷ 0 ∷ 0 ∷ 1 ∷ 129 ∷ 0 ∷ 1 ∷ 35 ∷ 8 ∷ 6 ∷ []
unfolding output_of record_text output_header four_bytes
writes_tagged = refl

-- the original length is capped by its field
writes_capped : output_of
    (record {
      sec = 1;
      nsec = 2;
      wire = 4294967292;
      rxhash = 0;
      protocol = 0;
      pkttype = 0;
      addr = [];
      bytes = 255 ∷ 255 ∷ 255 ∷ 255 ∷ 255 ∷ 255 ∷ 2 ∷ 0 ∷ 0 ∷ 0 ∷ 0 ∷ 1 ∷ 8 ∷ 6 ∷ [];
      tag =
          Some (record { tpid = 33024; tci = 291 });
    } ∷ []) ≡ 77 ∷ 60 ∷ 178 ∷ 161 ∷ 2 ∷ 0 ∷ 4 ∷ 0 ∷ 0 ∷ 0 ∷ 0 ∷ 0 ∷ 0 ∷ 0 ∷ 0 ∷ 0 ∷ 0
    ∷ 0 ∷ 4 ∷ 0 ∷ 1 ∷ 0 ∷ 0 ∷ 0 ∷ 1 ∷ 0 ∷ 0 ∷ 0 ∷ 2 ∷ 0 ∷ 0 ∷ 0 ∷ 18 ∷ 0 ∷ 0 ∷ 0 ∷ 255 ∷ 255 ∷ 255 ∷ 255 ∷ 255 ∷ 255 ∷ 255 ∷ 255
    ∷ 255 ∷ 255 ∷ 2 ∷ 0 ∷ 0 ∷ 0 ∷ 0 ∷ 1 ∷ 129 ∷ 0 ∷ 1 ∷ 35 ∷ 8 ∷ 6 ∷ []
unfolding output_of record_text output_header four_bytes
writes_capped = refl
