pub mod PcmLaws
