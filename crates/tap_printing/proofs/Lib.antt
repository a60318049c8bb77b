pub mod SeenStatistics
