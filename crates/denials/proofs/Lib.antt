pub mod DenialLaws
